-- The fault of a moov, and the list of what is at fault with it.
use Rattle.std.proofs.Common.{◌≡◌, ◌∙◌, ℕ, List, [], ◌∷◌, Option, Some, None, Result, Ok, Err, refl, sym, ap, subst}
use Rattle.std.specs.Option.{option_or}
use Rattle.mp4_box.specs.declared.rules.Fault.{Fault}
use Rattle.mp4_box.specs.Order.{least, IsIn, IsLeast}
use Rattle.mp4_box.specs.Trees.{Box, box_at, tree_faults, verdict}
use Rattle.mp4_box.proofs.OrderLemmas.{least-is, least-none}
use Rattle.mp4_init.specs.declared.table.TrackList.{TrackList}
use Rattle.mp4_init.specs.declared.moov.InitStop.{InitStop}
use Rattle.mp4_init.specs.declared.moov.InitStop.TheVariants as stops
use Rattle.mp4_init.specs.Moovs.{form_faults, value_faults, content_fault, of_moov, fault_of, moov_fault, or_else, moov_faults}

pub first_none : (a b : Option Fault) → option_or a b ≡ None → (a ≡ None) × (b ≡ None)
first_none None b e = (refl, e)
first_none (Some f) b e = absurd cc

verdict_none : (fs : List Fault) → fault_of (verdict fs) ≡ None → fs ≡ []
verdict_none [] e = refl
verdict_none (f ∷ fs) e = absurd cc

content_none : (moov : Box) → content_fault moov ≡ None → or_else (form_faults moov) (value_faults moov) ≡ []
unfolding content_fault
content_none moov e =
    let both = first_none (least (form_faults moov)) (least (value_faults moov)) e in
    ap (λ (fs : List Fault). or_else fs (value_faults moov)) (least-none (form_faults moov) both.0) ∙ least-none (value_faults moov) both.1

of_none : (o : Option Box) → of_moov None content_fault o ≡ None → of_moov [] (λ moov. or_else (form_faults moov) (value_faults moov)) o ≡ []
of_none None e = refl
of_none (Some moov) e = content_none moov e

pub nothing_at_fault : (o : ℕ) (x : List ℕ) → moov_fault o x ≡ None → moov_faults o x ≡ []
nothing_at_fault o x e =
    let both = first_none (fault_of (verdict (tree_faults o x))) (of_moov None content_fault (box_at o x)) e in
    ap (λ (fs : List Fault). or_else fs (of_moov [] (λ moov. or_else (form_faults moov) (value_faults moov)) (box_at o x))) (verdict_none (tree_faults o x) both.0)
    ∙ of_none (box_at o x) both.1

-- ---- the least

some_is : (f g : Fault) → Some f ≡ Some g → f ≡ g
some_is f g e = cc

empty : (f : Fault) → IsIn f [] → ⊥
unfolding IsIn
empty f e = e

or_least : (fs gs : List Fault) (f : Fault) → IsLeast f fs → IsLeast f (or_else fs gs)
or_least [] gs f l = absurd (empty f l.among)
or_least (g ∷ fs) gs f l = l

content_least : (moov : Box) (f : Fault) → content_fault moov ≡ Some f → IsLeast f (or_else (form_faults moov) (value_faults moov))
unfolding content_fault
content_least moov f e = by (least (form_faults moov)) refl e
  where
    by : (o : Option Fault) → least (form_faults moov) ≡ o → option_or o (least (value_faults moov)) ≡ Some f → IsLeast f (or_else (form_faults moov) (value_faults moov))
    by None none e = subst (λ (fs : List Fault). IsLeast f (or_else fs (value_faults moov))) (sym (least-none (form_faults moov) none)) (least-is (value_faults moov) f e)
    by (Some g) some e = or_least (form_faults moov) (value_faults moov) f (least-is (form_faults moov) f (some ∙ e))

verdict_ok : (fs : List Fault) → verdict fs ≡ Ok tt → fs ≡ []
verdict_ok [] e = refl
verdict_ok (f ∷ fs) e = absurd cc

pub box_least : (o : ℕ) (x : List ℕ) (moov : Box) (f : Fault) → box_at o x ≡ Some moov → verdict (tree_faults o x) ≡ Ok tt → content_fault moov ≡ Some f → IsLeast f (moov_faults o x)
box_least o x moov f here good e =
    let whole : moov_faults o x ≡ or_else (form_faults moov) (value_faults moov) =
    ap (λ (fs : List Fault). or_else fs (of_moov [] (λ moov. or_else (form_faults moov) (value_faults moov)) (box_at o x))) (verdict_ok (tree_faults o x) good)
    ∙ ap (of_moov [] (λ moov. or_else (form_faults moov) (value_faults moov))) here in
    subst (λ (fs : List Fault). IsLeast f fs) (sym whole) (content_least moov f e)

abbrev goal_err : InitStop → Result TrackList InitStop
goal_err stop = Err stop

pub stop_is : (f g : Fault) → goal_err (stops.Fault f) ≡ goal_err (stops.Fault g) → f ≡ g
stop_is f g e = cc
