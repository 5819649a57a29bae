-- What a flush after a run keeps of the effects of the run.
use Rattle.std.proofs.Common.{◌≡◌, Bool, true, false, List, ℕ, Ok, Err, Option, Result}
use Rattle.std.specs.Io.KnownBytes.{Keeps}
use Rattle.std.specs.Prelude.{IfErr, OnOk}
use Rattle.mp4_ends.proofs.StreamLemmas.{Appends-kept}
use Rattle.mp4_machine.specs.Ends.{Ends}
use Rattle.mp4_machine.specs.Readings.{Reading}
use Rattle.mp4_machine.specs.StreamRuns.{Claims, ReadsStream}
use Rattle.mp4_machine.specs.declared.stop.Stop.{Stop}
use Rattle.mp4_machine.specs.declared.stop.Stop.TheVariants.{Write}
use Rattle.mp4_machine.specs.declared.tally.Tally.{Tally}
use Rattle.mp4_recut.specs.declared.operation.Operation.{Operation}
use Rattle.mp4_stream.specs.Fragments.{ReadsFragments}
use Rattle.mp4_boxes.specs.HeldBoxes.{ReadsBoxes}
use Rattle.mp4_stream.specs.declared.totals.Totals.{Totals}
use Rattle.fmp4_program.specs.Runs.{Flushes, Lists}
use Rattle.fmp4_program.specs.declared.asked.Listing.{Listing}
use Rattle.fmp4_program.specs.declared.asked.Listing.TheVariants as listings

-- what was written stays written
Runs-kept : {T : Type 0} {reads : List ℕ → Reading} {ends : Ends} {claims : Claims} {tally : Tally} {t : T} (u : Option (List ℕ)) → ReadsStream {T = T} reads ends claims tally (Ok t) → Keeps ends.written' u → ReadsStream {T = T} reads (record ends { written' = u }) claims tally (Ok t)
Runs-kept {ends = ends} u r kept = record {
  bytes = r.bytes;
  fits = r.fits;
  given = r.given;
  fragments = r.fragments;
  prompt = record { early = r.prompt.early; last = r.prompt.last; cut = r.prompt.cut; read = λ some. let one = r.prompt.read some in record { few = one.few; gave = one.gave }; undecided = r.prompt.undecided };
  gives = (record { text = Appends-kept ends.written ends.written' u _ r.gives.0.text kept; fragments = r.gives.0.fragments; peak = r.gives.0.peak; tally = r.gives.0.tally }, r.gives.1, r.gives.2);
  kept = r.kept;
}

pub boxes-kept : {T : Type 0} {ends : Ends} {claims : Claims} {t : T} (u : Option (List ℕ)) → ReadsBoxes {T = T} ends claims (Ok t) → Keeps ends.written' u → ReadsBoxes {T = T} (record ends { written' = u }) claims (Ok t)
unfolding Runs-kept
boxes-kept u r kept = record { runs = Runs-kept u r.runs kept; by_boxes = record { most = r.by_boxes.most; enough = r.by_boxes.enough } }

pub reads-kept : {T : Type 0} {operation : Operation} {ends : Ends} {claims : Claims} {totals : Totals} {t : T} (u : Option (List ℕ)) → ReadsFragments {T = T} operation ends claims totals (Ok t) → Keeps ends.written' u → ReadsFragments {T = T} operation (record ends { written' = u }) claims totals (Ok t)
unfolding Runs-kept
reads-kept u r kept = record {
  effects = r.effects;
  inspected = r.inspected;
  runs = Runs-kept u r.runs kept;
  fragments = r.fragments;
  all = r.all;
  some = r.some;
  few = r.few;
  by_boxes = record { most = r.by_boxes.most; enough = r.by_boxes.enough };
}

pub listing-kept : (listing : Listing) (claims : Claims) (ends : Ends) (u : Option (List ℕ)) → Lists listing claims ends (Ok tt) → Keeps ends.written' u → Lists listing claims (record ends { written' = u }) (Ok tt)
listing-kept listings.Boxes claims ends u r kept = boxes-kept u r kept
listing-kept listings.Samples claims ends u r kept = (r.0, reads-kept u r.1 kept)
listing-kept listings.Fragments claims ends u r kept = (r.0, reads-kept u r.1 kept)

-- a success was flushed, or the flush failed
pub flushes : (failed failed' : Bool) (s : Result (Unit {0}) Stop) → OnOk s ((failed ≡ false) × (failed' ≡ false)) → IfErr s (λ e. (e ≡ Write) × (failed' ≡ true)) → Flushes (Ok tt) s failed failed'
flushes failed failed' (Ok x) good bad = good
flushes failed failed' (Err e) good bad = bad
