-- The numbers of the tracks of a moov fit their fields.
use Rattle.std.proofs.Common.{◌≡◌, ℕ, ◌<◌, ◌^◌, List, [], ◌∷◌, Option, Some, None, refl, arith, map}
use Rattle.std.specs.Prelude.{◌==◌}
use Rattle.std.specs.List.{AllByRecursion}
use Rattle.mp4_box.specs.Fields.{number_in}
use Rattle.mp4_box.specs.Headers.{IsBytes}
use Rattle.mp4_box.specs.Paths.{at_path, of_kind}
use Rattle.mp4_box.specs.Trees.{Box, box_at, children, first_of}
use Rattle.mp4_box.proofs.ByteLemmas.{OfBytes, children_of_bytes, kept_of_bytes, kind_of_bytes, number_small, path_of_bytes}
use Rattle.mp4_box.proofs.GrammarLemmas.{lies_at}
use Rattle.mp4_init.specs.Fields.{after_times, trex_id}
use Rattle.mp4_init.specs.Kinds.{hdlr, mdhd, mdia, minf, stbl, stsd, tkhd, to_trex, trak}
use Rattle.mp4_init.specs.Moovs.{moov_tracks, of_moov}
use Rattle.mp4_init.specs.TrackFields.{FitsTrackFields}
use Rattle.mp4_init.specs.Tracks as tracks
use Rattle.mp4_init.specs.Tracks.{field_of, id_of, track_of, tracks_of}

field_small : (n : ℕ) (bs : List Box) → AllByRecursion OfBytes bs → field_of (λ b. number_in b.payload n) (first_of bs) < 2 ^ 32
field_small n [] all = omega arith
field_small n (b ∷ bs) all = number_small b.payload n all.0

times_small : (bs : List Box) → AllByRecursion OfBytes bs → field_of after_times (first_of bs) < 2 ^ 32
times_small [] all = omega arith
times_small (b ∷ bs) all = number_small b.payload _ all.0

track_fits : (m t : Box) → OfBytes m → OfBytes t → FitsTrackFields (track_of m t)
unfolding tracks.track_of
track_fits m t hm ht =
    let trex = kept_of_bytes (λ (b : Box). trex_id b == id_of t) (at_path to_trex m) (path_of_bytes to_trex m hm) in
    record {
      id = times_small (at_path (tkhd ∷ []) t) (path_of_bytes (tkhd ∷ []) t ht);
      timescale = times_small (at_path (mdia ∷ mdhd ∷ []) t) (path_of_bytes (mdia ∷ mdhd ∷ []) t ht);
      handler = field_small 8 (at_path (mdia ∷ hdlr ∷ []) t) (path_of_bytes (mdia ∷ hdlr ∷ []) t ht);
      entries = field_small 4 (at_path (mdia ∷ minf ∷ stbl ∷ stsd ∷ []) t) (path_of_bytes (mdia ∷ minf ∷ stbl ∷ stsd ∷ []) t ht);
      desc = field_small 8 _ trex;
      duration = field_small 12 _ trex;
      size = field_small 16 _ trex;
      flags = field_small 20 _ trex;
    }

all_fit : (m : Box) (ts : List Box) → OfBytes m → AllByRecursion OfBytes ts → AllByRecursion FitsTrackFields (map (track_of m) ts)
all_fit m [] hm all = tt
all_fit m (t ∷ ts) hm all = (track_fits m t hm all.0, all_fit m ts hm all.1)

tracks_fit : (o : ℕ) (x : List ℕ) (m : Option Box) → IsBytes x → box_at o x ≡ m → AllByRecursion FitsTrackFields (of_moov [] tracks_of m)
tracks_fit o x None held e = tt
tracks_fit o x (Some m) held e =
    let s = lies_at o x m held e in
    all_fit m (of_kind trak (children m)) s.bytes (kind_of_bytes trak (children m) (children_of_bytes m s.bytes))

-- each track of a moov
pub moov_tracks_fit : (o : ℕ) (x : List ℕ) → IsBytes x → AllByRecursion FitsTrackFields (moov_tracks o x)
moov_tracks_fit o x held = tracks_fit o x (box_at o x) held refl
