-- The fragments of a stream that are accepted at the header of their mdat, and the text that their records are.
use Rattle.std.specs.Prelude.{◌≡◌, ◌+◌, ◌≤◌, ◌<◌, ◌^◌, ℕ, List, length, Some}
use Rattle.std.specs.List.{AllByRecursion, flat_map}
use Rattle.mp4_box.specs.Headers.{IsBytes, IsWhole}
use Rattle.mp4_init.specs.TrackFields.{FitsTrackFields}
use Rattle.mp4_init.specs.declared.table.Track.{Track}
use Rattle.mp4_frag.specs.Moofs.{IsRead}
use Rattle.mp4_machine.specs.Bodies.{longest}
use Rattle.mp4_grammar.specs.Meanings.{Fragment}
use Rattle.mp4_grammar.specs.TrafRecords.{IsRecord, fragment_records, record_bytes}
use Rattle.mp4_grammar.specs.declared.traf_record.TrafRecord.{TrafRecord}

-- each number of a track has the bits of its field, and it ended within 64 bits
pub record IsTrack (t : Track) : Type 0 where
  pub fields : FitsTrackFields t
  pub next : t.next < 2 ^ 64

-- a whole moof within the longest stream, without a fault, and an mdat that ends there
pub record IsAccepted (f : Fragment) : Type 0 where
  pub whole : IsWhole f.moof.bytes
  pub moof_bytes : IsBytes f.moof.bytes
  pub near : f.moof.offset + length f.moof.bytes ≤ longest
  pub tracks : AllByRecursion IsTrack f.tracks
  pub read : IsRead f.moof f.tracks
  pub mdat : (end : ℕ) → f.payload.end ≡ Some end → end ≤ longest

-- a text is the records of accepted fragments
pub record AreFragmentRecords (text : List ℕ) : Type 0 where
  pub fragments : List Fragment
  pub accepted : AllByRecursion IsAccepted fragments
  pub is : text ≡ flat_map fragment_records fragments

-- a text is records whose numbers have 64 and 32 bits
pub record AreRecords (text : List ℕ) : Type 0 where
  pub records : List TrafRecord
  pub fit : AllByRecursion IsRecord records
  pub is : text ≡ flat_map record_bytes records
