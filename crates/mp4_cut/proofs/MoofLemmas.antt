-- The boxes of a moof that was written, and their values.
use Rattle.std.proofs.Common.{◌≡◌, ℕ, ◌+◌, ◌*◌, ◌<◌, List, [], ◌∷◌, length, ◌++◌, Some, refl, sym, ap, ◌∙◌, arith, append-nil}
use Rattle.mp4_box.specs.declared.rules.Fault.{Fault}
use Rattle.mp4_box.specs.Trees.{Box, bad_below, bad_rest, box_at, boxes, children, deep_below, faults_of, is_container, no_rest, over, tree_faults}
use Rattle.mp4_box.proofs.TreeLemmas.{bad-leaf, bad-step, deep-leaf, deep-step}
use Rattle.mp4_traf.specs.Kinds.{mfhd, traf, tfhd, tfdt, trun}
use Rattle.mp4_cut.specs.Boxes.{box_bytes}
use Rattle.mp4_cut.specs.Mfhd.{mfhd_payload}
use Rattle.mp4_cut.specs.Tfhd.{tfhd_payload}
use Rattle.mp4_cut.specs.Tfdt.{tfdt_payload}
use Rattle.mp4_cut.specs.Trun.{trun_payload}
use Rattle.mp4_cut.specs.Moof.{WrittenFragment, data_offset, in_moof, in_traf, moof_box}
use Rattle.mp4_cut.specs.Reads.{FitsFields}
use Rattle.mp4_pieces.specs.Rooms.{moof}
use Rattle.mp4_pieces.specs.Sizes.{moof_size}
use Rattle.mp4_cut.proofs.BoxLemmas.{IsShort, box_of, found_box, over_last, over_written}
use Rattle.mp4_cut.proofs.FieldLemmas.{length_samples}

-- ---- lengths

abbrev pub trun_of : WrittenFragment → List ℕ
trun_of f = trun_payload f.version (data_offset f.rows) f.rows

pub length_trun : (f : WrittenFragment) → length (trun_of f) ≡ 12 + 16 * length f.rows
length_trun f = omega (arith, length_samples f.rows)

pub length_traf : (f : WrittenFragment) → length (in_traf f) ≡ 60 + 16 * length f.rows
length_traf f = omega (arith, length_samples f.rows)

pub length_in_moof : (f : WrittenFragment) (seq : ℕ) → length (in_moof f seq) ≡ 84 + 16 * length f.rows
length_in_moof f seq = omega (arith, length_samples f.rows)

pub length_moof : (f : WrittenFragment) (seq : ℕ) → length (moof_box f seq) ≡ moof_size (length f.rows)
unfolding moof_box
length_moof f seq = omega (arith, length_samples f.rows)

-- ---- boxes

short_mfhd : (seq : ℕ) → IsShort mfhd (mfhd_payload seq)
short_mfhd seq = record { four = refl; other = refl; small = omega arith }

short_tfhd : (f : WrittenFragment) → IsShort tfhd (tfhd_payload f.track f.entry)
short_tfhd f = record { four = refl; other = refl; small = omega arith }

short_tfdt : (f : WrittenFragment) → IsShort tfdt (tfdt_payload f.time)
short_tfdt f = record { four = refl; other = refl; small = omega arith }

short_trun : (f : WrittenFragment) → FitsFields f → IsShort trun (trun_of f)
short_trun f fits = record { four = refl; other = refl; small = omega (arith, length_trun f, fits.count) }

short_traf : (f : WrittenFragment) → FitsFields f → IsShort traf (in_traf f)
short_traf f fits = record { four = refl; other = refl; small = omega (arith, length_traf f, fits.count) }

pub short_moof : (f : WrittenFragment) (seq : ℕ) → FitsFields f → IsShort moof (in_moof f seq)
short_moof f seq fits = record { four = refl; other = refl; small = omega (arith, length_in_moof f seq, fits.count) }

abbrev pub moof_at : WrittenFragment → ℕ → ℕ → Box
moof_at f seq o = box_of o moof (in_moof f seq)

abbrev pub mfhd_at : ℕ → ℕ → Box
mfhd_at seq o = box_of (o + 8) mfhd (mfhd_payload seq)

abbrev pub traf_at : WrittenFragment → ℕ → Box
traf_at f o = box_of (o + 24) traf (in_traf f)

abbrev pub tfhd_at : WrittenFragment → ℕ → Box
tfhd_at f o = box_of (o + 32) tfhd (tfhd_payload f.track f.entry)

abbrev pub tfdt_at : WrittenFragment → ℕ → Box
tfdt_at f o = box_of (o + 52) tfdt (tfdt_payload f.time)

abbrev pub trun_at : WrittenFragment → ℕ → Box
trun_at f o = box_of (o + 72) trun (trun_of f)

pub moof_found : (f : WrittenFragment) (seq o : ℕ) (rest : List ℕ) → FitsFields f → box_at o (moof_box f seq ++ rest) ≡ Some (moof_at f seq o)
unfolding moof_box
moof_found f seq o rest fits = found_box moof (in_moof f seq) rest o (short_moof f seq fits)

-- going over the boxes of the moof, and those of the traf
over_moof : {R : Type 0} (g : Box → List R) (h : ℕ → List ℕ → List R) (f : WrittenFragment) (seq o : ℕ) → FitsFields f → over g h (in_moof f seq) 0 (o + 8) ≡ g (mfhd_at seq o) ++ (g (traf_at f o) ++ [])
over_moof {R} g h f seq o fits =
    over_written g h mfhd (mfhd_payload seq) (box_bytes traf (in_traf f)) (o + 8) (short_mfhd seq)
    ∙ (ap (λ (n : ℕ). g (mfhd_at seq o) ++ over g h (box_bytes traf (in_traf f)) 0 n) (omega arith)
    ∙ ap (λ (rs : List R). g (mfhd_at seq o) ++ rs) (over_last g h traf (in_traf f) (o + 24) (short_traf f fits)))

over_traf : {R : Type 0} (g : Box → List R) (h : ℕ → List ℕ → List R) (f : WrittenFragment) (o : ℕ) → FitsFields f → over g h (in_traf f) 0 (o + 32) ≡ g (tfhd_at f o) ++ (g (tfdt_at f o) ++ (g (trun_at f o) ++ []))
over_traf {R} g h f o fits =
    let after : List ℕ = box_bytes trun (trun_of f) in
    over_written g h tfhd (tfhd_payload f.track f.entry) (box_bytes tfdt (tfdt_payload f.time) ++ after) (o + 32) (short_tfhd f)
    ∙ (ap (λ (n : ℕ). g (tfhd_at f o) ++ over g h (box_bytes tfdt (tfdt_payload f.time) ++ after) 0 n) (omega arith)
    ∙ ap (λ (rs : List R). g (tfhd_at f o) ++ rs)
    (over_written g h tfdt (tfdt_payload f.time) after (o + 52) (short_tfdt f)
    ∙ (ap (λ (n : ℕ). g (tfdt_at f o) ++ over g h after 0 n) (omega arith)
    ∙ ap (λ (rs : List R). g (tfdt_at f o) ++ rs) (over_last g h trun (trun_of f) (o + 72) (short_trun f fits)))))

pub moof_children : (f : WrittenFragment) (seq o : ℕ) → FitsFields f → children (moof_at f seq o) ≡ mfhd_at seq o ∷ traf_at f o ∷ []
moof_children f seq o fits = over_moof (λ b. b ∷ []) (λ _ _. []) f seq o fits

pub traf_children : (f : WrittenFragment) (o : ℕ) → FitsFields f → children (traf_at f o) ≡ tfhd_at f o ∷ tfdt_at f o ∷ trun_at f o ∷ []
traf_children f o fits =
    ap (λ (n : ℕ). boxes n (in_traf f)) (omega arith) ∙ over_traf (λ b. b ∷ []) (λ _ _. []) f o fits

-- ---- nothing is at fault with their tree

three_none : (a b c : List Fault) → a ≡ [] → b ≡ [] → c ≡ [] → a ++ (b ++ (c ++ [])) ≡ []
three_none a b c p q r = rw (p, q, r) refl

two_none : (a b : List Fault) → a ≡ [] → b ≡ [] → a ++ (b ++ []) ≡ []
two_none a b p q = rw (p, q) refl

leaf_bad : (n o : ℕ) (f : WrittenFragment) (seq : ℕ) → (bad_below n (mfhd_at seq o) ≡ []) × (bad_below n (tfhd_at f o) ≡ []) × (bad_below n (tfdt_at f o) ≡ []) × (bad_below n (trun_at f o) ≡ [])
unfolding is_container
leaf_bad n o f seq = (bad-leaf n (mfhd_at seq o) refl, bad-leaf n (tfhd_at f o) refl, bad-leaf n (tfdt_at f o) refl, bad-leaf n (trun_at f o) refl)

leaf_deep : (n o : ℕ) (f : WrittenFragment) (seq : ℕ) → 0 < n → (deep_below n (mfhd_at seq o) ≡ []) × (deep_below n (tfhd_at f o) ≡ []) × (deep_below n (tfdt_at f o) ≡ []) × (deep_below n (trun_at f o) ≡ [])
unfolding is_container
leaf_deep n o f seq h = (deep-leaf n (mfhd_at seq o) h refl, deep-leaf n (tfhd_at f o) h refl, deep-leaf n (tfdt_at f o) h refl, deep-leaf n (trun_at f o) h refl)

traf_bad : (f : WrittenFragment) (o : ℕ) → FitsFields f → bad_below 7 (traf_at f o) ≡ []
unfolding is_container
traf_bad f o fits =
    let leaf = leaf_bad 6 o f 0 in
    bad-step 7 (traf_at f o) (omega arith) refl
    ∙ (ap (λ (n : ℕ). over (bad_below 6) bad_rest (in_traf f) 0 n) (omega arith)
    ∙ (over_traf (bad_below 6) bad_rest f o fits ∙ three_none _ _ _ leaf.1 leaf.2 leaf.3))

traf_deep : (f : WrittenFragment) (o : ℕ) → FitsFields f → deep_below 7 (traf_at f o) ≡ []
unfolding is_container
traf_deep f o fits =
    let leaf = leaf_deep 6 o f 0 (omega arith) in
    deep-step 7 (traf_at f o) (omega arith) refl
    ∙ (ap (λ (n : ℕ). over (deep_below 6) no_rest (in_traf f) 0 n) (omega arith)
    ∙ (over_traf (deep_below 6) no_rest f o fits ∙ three_none _ _ _ leaf.1 leaf.2 leaf.3))

moof_bad : (f : WrittenFragment) (seq o : ℕ) → FitsFields f → bad_below 8 (moof_at f seq o) ≡ []
unfolding is_container
moof_bad f seq o fits =
    bad-step 8 (moof_at f seq o) (omega arith) refl
    ∙ (over_moof (bad_below 7) bad_rest f seq o fits ∙ two_none _ _ (leaf_bad 7 o f seq).0 (traf_bad f o fits))

moof_deep : (f : WrittenFragment) (seq o : ℕ) → FitsFields f → deep_below 8 (moof_at f seq o) ≡ []
unfolding is_container
moof_deep f seq o fits =
    deep-step 8 (moof_at f seq o) (omega arith) refl
    ∙ (over_moof (deep_below 7) no_rest f seq o fits ∙ two_none _ _ (leaf_deep 7 o f seq (omega arith)).0 (traf_deep f o fits))

pub tree_is_good : (f : WrittenFragment) (seq o : ℕ) → FitsFields f → tree_faults o (moof_box f seq) ≡ []
tree_is_good f seq o fits =
    ap faults_of (ap (box_at o) (sym (append-nil (moof_box f seq))) ∙ moof_found f seq o [] fits)
    ∙ two_is_none (bad_below 8 (moof_at f seq o)) (deep_below 8 (moof_at f seq o)) (moof_bad f seq o fits) (moof_deep f seq o fits)
  where
    two_is_none : (a b : List Fault) → a ≡ [] → b ≡ [] → a ++ b ≡ []
    two_is_none a b p q = rw (p, q) refl
