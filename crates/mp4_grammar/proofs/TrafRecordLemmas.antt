-- The bytes of a record are read as the record.
use Rattle.std.proofs.Common.{◌≡◌, ◌∙◌, ◌<◌, ◌^◌, ℕ, ℤ, List, ◌++◌, drop, ap}
use Rattle.std.specs.Int.{cast_signed, cast_unsigned, w64}
use Rattle.std.proofs.Math.Facts.{Fits-of_z}
use Rattle.std.proofs.lemmas.Int.{to_z-of_z}
use Rattle.byteorder.specs.Numbers.{big_number-reads_back}
use Rattle.mp4_grammar.specs.TrafRecords.{IsRecord, in_4, in_8, record_bytes, record_of}
use Rattle.mp4_grammar.specs.declared.traf_record.TrafRecord.{TrafRecord}

pub same_record : (a b c d e f g h i j k l : ℕ) (m : ℤ) (v w : ℕ) (a' b' c' d' e' f' g' h' i' j' k' l' : ℕ) (m' : ℤ) (v' w' : ℕ)
    → a ≡ a' → b ≡ b' → c ≡ c' → d ≡ d' → e ≡ e' → f ≡ f' → g ≡ g' → h ≡ h' → i ≡ i' → j ≡ j' → k ≡ k' → l ≡ l' → m ≡ m' → v ≡ v' → w ≡ w'
    → ◌≡◌ {A = TrafRecord} (record { at = a; size = b; time = c; duration = d; media = e; sequence = f; track = g; timescale = h; samples = i; sync = j; syncs = k; ended = l; earliest = m; handler = v; entries = w })
    (record { at = a'; size = b'; time = c'; duration = d'; media = e'; sequence = f'; track = g'; timescale = h'; samples = i'; sync = j'; syncs = k'; ended = l'; earliest = m'; handler = v'; entries = w' })
same_record a b c d e f g h i j k l m v w a' b' c' d' e' f' g' h' i' j' k' l' m' v' w' at size time duration media sequence track timescale samples sync syncs ended earliest handler entries = cc

pub read_again : (r : TrafRecord) (rest bytes : List ℕ) → IsRecord r → bytes ≡ record_bytes r ++ rest → record_of bytes ≡ r
unfolding record_bytes in_8 in_4
read_again r rest bytes is same =
    let all = record_bytes r ++ rest in
    let small : cast_unsigned w64 r.earliest < 2 ^ 64 = (Fits-of_z is.earliest).fits in
    ap record_of same
    ∙ same_record _ _ _ _ _ _ _ _ _ _ _ _ _ _ _ r.at r.size r.time r.duration r.media r.sequence r.track r.timescale r.samples r.sync r.syncs r.ended r.earliest r.handler r.entries
    (big_number-reads_back 8 r.at (drop 8 all) is.at) (big_number-reads_back 8 r.size (drop 16 all) is.size) (big_number-reads_back 8 r.time (drop 24 all) is.time) (big_number-reads_back 8 r.duration (drop 32 all) is.duration) (big_number-reads_back 8 r.media (drop 40 all) is.media)
    (big_number-reads_back 4 r.sequence (drop 44 all) is.sequence) (big_number-reads_back 4 r.track (drop 48 all) is.track) (big_number-reads_back 4 r.timescale (drop 52 all) is.timescale) (big_number-reads_back 4 r.samples (drop 56 all) is.samples) (big_number-reads_back 4 r.sync (drop 60 all) is.sync)
    (big_number-reads_back 4 r.syncs (drop 64 all) is.syncs) (big_number-reads_back 8 r.ended (drop 72 all) is.ended)
    (ap (cast_signed w64) (big_number-reads_back 8 (cast_unsigned w64 r.earliest) (drop 80 all) small) ∙ to_z-of_z w64 r.earliest is.earliest)
    (big_number-reads_back 4 r.handler (drop 84 all) is.handler) (big_number-reads_back 4 r.entries (drop 88 all) is.entries)

-- so are numbers that were read at its places
pub numbers_again : (r : TrafRecord) (rest bytes : List ℕ) (at size time duration media sequence track timescale samples sync syncs ended : ℕ) (earliest : ℤ) (handler entries : ℕ) → at ≡ (record_of bytes).at → size ≡ (record_of bytes).size → time ≡ (record_of bytes).time → duration ≡ (record_of bytes).duration
    → media ≡ (record_of bytes).media → sequence ≡ (record_of bytes).sequence → track ≡ (record_of bytes).track → timescale ≡ (record_of bytes).timescale → samples ≡ (record_of bytes).samples → sync ≡ (record_of bytes).sync → syncs ≡ (record_of bytes).syncs → ended ≡ (record_of bytes).ended → earliest ≡ (record_of bytes).earliest
    → handler ≡ (record_of bytes).handler → entries ≡ (record_of bytes).entries → IsRecord r → bytes ≡ record_bytes r ++ rest
    → ◌≡◌ {A = TrafRecord} (record { at = at; size = size; time = time; duration = duration; media = media; sequence = sequence; track = track; timescale = timescale; samples = samples; sync = sync; syncs = syncs; ended = ended; earliest = earliest; handler = handler; entries = entries }) r
numbers_again r rest bytes at size time duration media sequence track timescale samples sync syncs ended earliest handler entries a b c d e f g h i j k l m v w is same =
    same_record at size time duration media sequence track timescale samples sync syncs ended earliest handler entries _ _ _ _ _ _ _ _ _ _ _ _ _ _ _ a b c d e f g h i j k l m v w ∙ read_again r rest bytes is same
