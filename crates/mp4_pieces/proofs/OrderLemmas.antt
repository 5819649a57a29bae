-- The order of runs doesn't matter.
use Rattle.std.proofs.Common.{◌≡◌, ℕ, ◌<◌, ◌^◌, List, length, sym, subst}
use Rattle.std.specs.List.{AllByRecursion}
use Rattle.std.specs.List.Sorted.{IsPermutation}
use Rattle.std.proofs.lemmas.List.Elements.{All-from_recursion, recursion_from_All}
use Rattle.std.proofs.lemmas.List.Sorted.{All-permutation, sum_by-IsPermutation}
use Rattle.mp4_traf.specs.declared.run.Run.{Run}
use Rattle.mp4_traf.specs.Runs.{MoofBytes}
use Rattle.mp4_pieces.specs.declared.cut.Cut.{Cut}
use Rattle.mp4_pieces.specs.Fits.{FitsIndex, HasRoomFor}
use Rattle.mp4_pieces.specs.Pieces.{piece_count, pieces_of}
use Rattle.mp4_pieces.specs.Rooms.{numbers}

all_kept : (P : Run → Type 0) (xs ys : List Run) → IsPermutation xs ys → AllByRecursion P xs → AllByRecursion P ys
all_kept P xs ys same all = recursion_from_All P ys (All-permutation P xs ys same (All-from_recursion P xs all))

pub count_kept : (cut : Cut) (moof_bytes : List ℕ) (xs ys : List Run) → IsPermutation xs ys → piece_count cut moof_bytes ys ≡ piece_count cut moof_bytes xs
count_kept cut moof_bytes xs ys same = sum_by-IsPermutation (λ (run : Run). length (pieces_of cut moof_bytes run)) xs ys same

pub room_kept : (cut : Cut) (h : MoofBytes) (xs ys : List Run) (seq : ℕ) → IsPermutation xs ys → HasRoomFor cut h xs seq → HasRoomFor cut h ys seq
room_kept cut h xs ys seq same has = record {
  indexes = λ t. all_kept (λ (run : Run). FitsIndex (pieces_of cut h.bytes run)) xs ys same (has.indexes t);
  numbers = subst (λ (n : ℕ). AllByRecursion (λ (k : ℕ). k < 2 ^ 32) (numbers seq n)) (sym (count_kept cut h.bytes xs ys same)) has.numbers;
}
