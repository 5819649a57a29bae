-- What a run claims, by the most that its bytes ask for.
use Rattle.std.proofs.Common.{◌≡◌, ◌∙◌, ℕ, ◌+◌, ◌≤◌, List, ◌∷◌, ◌++◌, max, Ok, Err, Result, ap, arith, inl, inr}
use Rattle.std.specs.Prelude.{IsErrOf}
use Rattle.mp4_machine.specs.Ends.{Ends}
use Rattle.mp4_machine.specs.Readings.{Request, Reading, Effects, greatest, most_of}
use Rattle.mp4_machine.specs.StreamRuns.{Claims, ReadsStream}
use Rattle.mp4_machine.specs.declared.stop.Stop.{Stop}
use Rattle.mp4_machine.specs.declared.stop.Stop.TheVariants.{Stream, Read, Write, OverLimit, Memory}
use Rattle.mp4_machine.specs.declared.tally.Tally.{Tally}
use Rattle.mp4_machine.proofs.ReadingAskLemmas.{greatest-append}

-- what is asked for before a claim that is refused is asked for
refused_bound : (t : Effects) (peak copy n : ℕ) (before : List Request) (a : Request) (after : List Request) → peak ≡ copy + greatest before → t.requests ≡ before ++ a ∷ after → most_of t ≤ n → peak ≤ copy + n
refused_bound t peak copy n before a after e requested low =
    let whole : most_of t ≡ max (greatest before) (greatest (a ∷ after)) = ap greatest requested ∙ greatest-append before (a ∷ after) in
    omega (arith, e, whole, low)

module _ {T : Type 0} (reads : List ℕ → Reading) {ends : Ends} (claims : Claims) {tally : Tally} where
  -- no run claims more than its bytes ask for
  pub asked_bound : (result : Result T Stop) (r : ReadsStream {T = T} reads ends claims tally result) (n : ℕ) → most_of (reads r.bytes).effects ≤ n → claims.peak ≤ claims.copy + n
  asked_bound (Ok t) r n low = omega (arith, r.gives.0.peak, low)
  asked_bound (Err (Stream f)) r n low = omega (arith, r.gives.0.peak, low)
  asked_bound (Err (Read at)) r n low = omega (arith, r.gives.0.peak, low)
  asked_bound (Err Write) r n low = omega (arith, r.gives.0.most, low)
  asked_bound (Err OverLimit) r n low = elim r.gives [
    | inl idle ↦ omega (arith, idle.0.peak)
    | inr refused_claim ↦ refused_bound (reads r.bytes).effects claims.peak claims.copy n refused_claim.0.before refused_claim.0.request refused_claim.0.requested.0 refused_claim.0.peak refused_claim.0.requested.1 low
  ]
  asked_bound (Err Memory) r n low = elim r.gives [
    | inl idle ↦ omega (arith, idle.0.peak)
    | inr refused_claim ↦ refused_bound (reads r.bytes).effects claims.peak claims.copy n refused_claim.0.before refused_claim.0.request refused_claim.0.requested.0 refused_claim.0.peak refused_claim.0.requested.1 low
  ]

  -- a run is never over a limit that is at least as much
  pub asked_enough : (result : Result T Stop) (r : ReadsStream {T = T} reads ends claims tally result) (n : ℕ) → most_of (reads r.bytes).effects ≤ n → claims.copy + n ≤ claims.limit → IsErrOf result OverLimit → ⊥
  asked_enough (Ok t) r n low enough e = absurd cc
  asked_enough (Err (Stream f)) r n low enough e = absurd cc
  asked_enough (Err (Read at)) r n low enough e = absurd cc
  asked_enough (Err Write) r n low enough e = absurd cc
  asked_enough (Err Memory) r n low enough e = absurd cc
  asked_enough (Err OverLimit) r n low enough e = elim r.gives [
    | inl idle ↦ omega (arith, idle.1, enough)
    | inr refused_claim ↦
        let s = refused_claim.0 in
        let all : most_of (reads r.bytes).effects ≡ max (greatest s.before) (max s.request.sum (greatest s.requested.0)) = ap greatest s.requested.1 ∙ greatest-append s.before (s.request ∷ s.requested.0) in
        omega (arith, refused_claim.1, enough, all, low)
  ]
