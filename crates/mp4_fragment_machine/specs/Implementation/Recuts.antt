-- Only the code's own way; no public clause needs this.
-- Where the media of a fragment begin that is recut.
use Rattle.std.specs.Prelude.{ℕ, ◌+◌, ◌-◌, List, Some}
use Rattle.mp4_init.specs.declared.table.Track.{Track}
use Rattle.mp4_pieces.specs.declared.cut.Cut.{Cut}
use Rattle.mp4_machine.specs.Bodies.{longest}
use Rattle.std.specs.List.{sum_by}
use Rattle.mp4_box.specs.declared.headers.Header.{Header}
use Rattle.mp4_box.specs.declared.headers.Size.{Size}
use Rattle.mp4_box.specs.declared.headers.Size.TheVariants.{Exact, ToEnd}
use Rattle.mp4_frag.specs.Moofs.{moof_samples}
use Rattle.mp4_traf.specs.declared.run.Run.{Run}
use Rattle.mp4_machine.specs.declared.tally.Tally.{Tally}
use Rattle.mp4_grammar.specs.Contexts.{context}
use Rattle.mp4_grammar.specs.Items.{context_after_fragment, fragment}
use Rattle.mp4_grammar.specs.Meanings.{Fragment, needed_in, runs_in}
use Rattle.mp4_recut.specs.Splitting.{output_fragments, splitting}
use Rattle.mp4_recut.specs.Media.{MediaPosition, output_from}
use Rattle.mp4_fragment_machine.specs.Places.{Place, InBody, InOpenBody}
use Rattle.mp4_fragment_machine.specs.declared.pending_moof.PendingMoof.{PendingMoof}

-- the tally with so many fragments
abbrev pub with_fragments : Tally → ℕ → Tally
with_fragments t n = record t { fragments = n }

-- ---- where the media of a fragment begin

-- the fragment of the pending moof and an mdat with this header, if the first output fragment has this number
abbrev pub recut_fragment : PendingMoof → List Track → ℕ → Header → Fragment
recut_fragment w tracks number h = fragment (context w.moof.at (Some tracks) number) tracks w.moof.bytes h

-- the first position of the media: all output fragments are ahead
abbrev pub first_position : Cut → Fragment → MediaPosition
first_position cut f = record { at = f.payload.start; place = 0; left = 0; ahead = output_fragments cut f }

-- in its mdat, by the stated size
abbrev pub in_media : Cut → Fragment → MediaPosition → ℕ → Header → ℕ → Size → Place
in_media cut f q next h own (Exact s) = InBody (output_from q) next h.kind (context_after_fragment (splitting cut) f (next + s)) (s - h.header_len) own
in_media cut f q next h own ToEnd = InOpenBody (output_from q) next h.kind (needed_in f) (longest - (next + h.header_len)) own

-- the counts with its samples, and so many output fragments
abbrev pub with_samples : Fragment → Tally → ℕ → Tally
with_samples f t n = record t { fragments = n; samples = t.samples + moof_samples f.moof; media_bytes = t.media_bytes + sum_by (λ (run : Run). run.bytes) (runs_in f) }
