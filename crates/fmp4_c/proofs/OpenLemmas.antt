-- What an open answers, by what was asked for.
use Rattle.std.proofs.Common.{◌∙◌, ℕ, ◌/◌, ◌≤◌, Option, Some, Result, Ok, Err, IfErr, ap, arith, eqb, false, refl, sym, subst}
use Rattle.std.proofs.lemmas.Bool.{ne_eqb}
use Rattle.std.proofs.lemmas.Option.{none-some}
use Rattle.std.specs.Prelude.{◌≡◌, IfOk}
use Rattle.fmp4_c.proofs.HoldLemmas.{some-is}
use Rattle.fmp4_c.specs.Calls.{CheckOpens, CutOpens, IsInRange, IsListedBy, IsListing, IsNoListing, IsOutOfRange, IsPlain, IsSplitBy, ListOpens, Opens, OpensOr, SplitOpens, checked_by, header_layout, plain_flags, plain_request}
use Rattle.fmp4_c.specs.Engines.{Run}
use Rattle.fmp4_c.specs.declared.answer.Answer.{Answer}
use Rattle.fmp4_c.specs.declared.answer.Answer.TheVariants.{Done, Full, Fault, NoRoom, OverLimit, NoMemory, NoRecord, NotOpen, Closed, IsOpen, Ended, BadSamples, BadBytes, BadFlags, BadRoom, BadLayout, BadListing}
use Rattle.fmp4_c.specs.declared.asked.Asked.{Asked}
use Rattle.fmp4_c.specs.declared.request.CutRequest.{CutRequest}

pub cut-opens : (layout known : ℕ) (request : CutRequest) (limit room : ℕ) (asked : Result Asked Answer) → IfOk asked (IsSplitBy request limit room) → IfOk asked (λ q. IsInRange layout known request room) → IfErr asked (IsOutOfRange layout known request room) → (answer : Answer) (held : Option Run) → OpensOr asked answer held → CutOpens layout known request limit room answer held
cut-opens layout known request limit room (Ok q) by range out answer held opens = CutOpens.Asks q range by opens
cut-opens layout known request limit room (Err a) by range out answer held opens = CutOpens.Refuses (subst (λ (x : Answer). IsOutOfRange layout known request room x) (sym opens.0) out) opens.1

-- what is open has the task that was asked for
task-opened : (asked : Asked) (answer : Answer) (held : Option Run) → Opens asked answer held → (run : Run) → held ≡ Some run → run.task ≡ asked.task
task-opened asked Done held opens run is = ap (λ (r : Run). r.task) (some-is run opens.run (sym is ∙ opens.is)) ∙ opens.task
task-opened asked OverLimit held opens run is = absurd (none-some run (sym opens.1 ∙ is))
task-opened asked NoMemory held opens run is = absurd (none-some run (sym opens.1 ∙ is))
task-opened asked Full held opens run is = absurd opens
task-opened asked Fault held opens run is = absurd opens
task-opened asked NoRoom held opens run is = absurd opens
task-opened asked NotOpen held opens run is = absurd opens
task-opened asked Closed held opens run is = absurd opens
task-opened asked IsOpen held opens run is = absurd opens
task-opened asked Ended held opens run is = absurd opens
task-opened asked BadSamples held opens run is = absurd opens
task-opened asked BadBytes held opens run is = absurd opens
task-opened asked BadFlags held opens run is = absurd opens
task-opened asked BadRoom held opens run is = absurd opens
task-opened asked BadLayout held opens run is = absurd opens
task-opened asked NoRecord held opens run is = absurd opens
task-opened asked BadListing held opens run is = absurd opens

-- flags up to 3 say nothing of keyframes
no-keyframes : (flags : ℕ) → flags ≤ plain_flags → eqb (flags / 4) 1 ≡ false
no-keyframes flags few = ne_eqb (flags / 4) 1 (λ e. omega (arith, few, e))

plain-opened : (layout samples bytes flags limit room : ℕ) (answer : Answer) (held : Option Run) → CutOpens layout plain_flags (plain_request samples bytes flags) limit room answer held → (run : Run) → held ≡ Some run → IsPlain run.task
plain-opened layout samples bytes flags limit room answer held (CutOpens.Asks asked range by opens) run is =
    subst IsPlain (sym (task-opened asked answer held opens run is ∙ by.task)) (by.by.endless refl, by.by.keyframes ∙ no-keyframes flags range.flags)
plain-opened layout samples bytes flags limit room answer held (CutOpens.Refuses out none) run is = absurd (none-some run (sym none ∙ is))

pub split-opens : (layout samples bytes flags limit room : ℕ) (request : CutRequest) → request ≡ plain_request samples bytes flags → (answer : Answer) (held : Option Run) → CutOpens layout plain_flags request limit room answer held → SplitOpens layout samples bytes flags limit room answer held
split-opens layout samples bytes flags limit room request is answer held opens =
    let same : CutOpens layout plain_flags (plain_request samples bytes flags) limit room answer held = subst (λ (r : CutRequest). CutOpens layout plain_flags r limit room answer held) is opens in
    record { opens = same; plain = plain-opened layout samples bytes flags limit room answer held same }

pub check-opens : (layout limit : ℕ) (asked : Result Asked Answer) → IfOk asked (λ q. (layout ≡ header_layout) × (q ≡ checked_by limit)) → IfErr asked (λ a. (layout ≡ header_layout → ⊥) × (a ≡ BadLayout)) → (answer : Answer) (held : Option Run) → OpensOr asked answer held → CheckOpens layout limit answer held
check-opens layout limit (Ok q) by out answer held opens = CheckOpens.Asks by.0 (subst (λ (x : Asked). Opens x answer held) by.1 opens)
check-opens layout limit (Err a) by out answer held opens = CheckOpens.Refuses out.0 (opens.0 ∙ out.1) opens.1

pub list-opens : (layout listing limit room : ℕ) (asked : Result Asked Answer) → IfOk asked (IsListedBy listing limit room) → IfOk asked (λ q. IsListing layout listing room) → IfErr asked (IsNoListing layout listing room) → (answer : Answer) (held : Option Run) → OpensOr asked answer held → ListOpens layout listing limit room answer held
list-opens layout listing limit room (Ok q) by range out answer held opens = ListOpens.Asks q range by opens
list-opens layout listing limit room (Err a) by range out answer held opens = ListOpens.Refuses (subst (λ (x : Answer). IsNoListing layout listing room x) (sym opens.0) out) opens.1
