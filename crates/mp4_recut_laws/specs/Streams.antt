-- Streams without a fault, by their items; and their recut text.
use Rattle.std.specs.Prelude.{ℕ, ◌≤◌, ◌^◌, Bool, true, false, List, [], ◌++◌, length}
use Rattle.mp4_box.specs.declared.headers.Header.{Header}
use Rattle.mp4_box.specs.Headers.{Head, IsBytes}
use Rattle.mp4_frag.specs.Moofs.{IsRead}
use Rattle.mp4_traf.specs.Runs.{moof_at}
use Rattle.mp4_pieces.specs.declared.cut.Cut.{Cut}
use Rattle.mp4_grammar.specs.Contexts.{Context, first_context}
use Rattle.mp4_grammar.specs.Joined.{AreSound, IsGood, IsMoofHere, Item, OneBox, context_after_all, fragment_here, joined, tracks_in}
use Rattle.mp4_grammar.specs.Meanings.{Meaning, needed_in}
use Rattle.mp4_grammar.specs.Rests.{IsOpen}
use Rattle.mp4_grammar.specs.declared.command.Command.{Command}
use Rattle.mp4_grammar.specs.declared.kinds.Kind.TheVariants.{Mdat, Other}
use Rattle.mp4_recut_laws.specs.Listings.{fragment_listing, items_listing}
use Rattle.mp4_recut_laws.specs.RecutItems.{fragment_items, items_recut}
use Rattle.mp4_recut_laws.specs.MediaSamples.{MediaSample, items_samples, media_samples_in}
use Rattle.mp4_recut.specs.Splitting.{is_dropped, splitting}
use Rattle.mp4_recut.specs.Texts.{box_text, fragment_text, items_text}

-- what follows the whole items of a stream: nothing; or a box that goes to the end of the stream, by its header,
-- the bytes of the header, and those after it; or a moof, and an mdat that goes to the end
pub data Ending : Type 0 where
  NothingMore : Ending
  OpenBox : (h : Header) (header_bytes more : List ℕ) → Ending
  OpenFragment : (moof : OneBox) (h : Header) (header_bytes more : List ℕ) → Ending

-- the bytes of an ending
abbrev pub ending_bytes : Ending → List ℕ
ending_bytes NothingMore = []
ending_bytes (OpenBox h header_bytes more) = header_bytes ++ more
ending_bytes (OpenFragment moof h header_bytes more) = moof.bytes ++ (header_bytes ++ more)

-- the ending breaks no rule in this context
abbrev pub IsSoundEnding : Meaning → Context → Ending → Type 0
IsSoundEnding meaning c NothingMore = Unit {0}
IsSoundEnding meaning c (OpenBox h header_bytes more) = Head h header_bytes × IsOpen Other h
IsSoundEnding meaning c (OpenFragment moof h header_bytes more) =
    Head h header_bytes × IsOpen Mdat h × IsMoofHere c moof × IsRead (moof_at moof.bytes c.at) (tracks_in c) × IsGood meaning c moof.bytes h × (needed_in (fragment_here c moof.bytes h) ≤ length more)

-- the recut text of an ending
abbrev pub ending_text : Cut → Context → Ending → List ℕ
ending_text cut c NothingMore = []
ending_text cut c (OpenBox h header_bytes more) = box_text (is_dropped h.kind.0) (header_bytes ++ more)
ending_text cut c (OpenFragment moof h header_bytes more) = fragment_text cut (fragment_here c moof.bytes h) more

-- the samples of an ending
abbrev pub ending_samples : Context → Ending → List MediaSample
ending_samples c NothingMore = []
ending_samples c (OpenBox h header_bytes more) = []
ending_samples c (OpenFragment moof h header_bytes more) = media_samples_in (fragment_here c moof.bytes h) more

-- what a command writes of an ending
abbrev pub ending_listing : Command → Context → Ending → List ℕ
ending_listing command c NothingMore = []
ending_listing command c (OpenBox h header_bytes more) = []
ending_listing command c (OpenFragment moof h header_bytes more) = fragment_listing command (fragment_here c moof.bytes h)

-- a stream as whole items and an ending
pub record Stream : Type 0 where
  pub items : List Item
  pub ending : Ending

-- the bytes of a stream
abbrev pub stream_bytes : Stream → List ℕ
stream_bytes s = joined s.items ++ ending_bytes s.ending

-- the context where the ending of a stream begins
abbrev pub ending_context : Cut → Stream → Context
ending_context cut s = context_after_all (splitting cut) first_context s.items

-- the stream is of bytes, breaks no rule, and has at most 2^62 bytes
pub record IsSoundStream (cut : Cut) (s : Stream) : Type 0 where
  pub sound : AreSound (splitting cut) first_context s.items
  pub ending : IsSoundEnding (splitting cut) (ending_context cut s) s.ending
  pub bytes : IsBytes (stream_bytes s)
  pub near : length (stream_bytes s) ≤ 2 ^ 62

-- the same, however long it is
pub record IsWellFormed (cut : Cut) (s : Stream) : Type 0 where
  pub sound : AreSound (splitting cut) first_context s.items
  pub ending : IsSoundEnding (splitting cut) (ending_context cut s) s.ending
  pub bytes : IsBytes (stream_bytes s)

-- the recut text of a stream: the texts of its items, one after the other, and that of its ending
abbrev pub stream_text : Cut → Stream → List ℕ
stream_text cut s = items_text cut first_context s.items ++ ending_text cut (ending_context cut s) s.ending

-- the samples of a stream: those of its items, and those of its ending
abbrev pub stream_samples : Cut → Stream → List MediaSample
stream_samples cut s = items_samples cut first_context s.items ++ ending_samples (ending_context cut s) s.ending

-- what a command writes of a stream: what it writes of its items, and of its ending
abbrev pub stream_listing : Command → Cut → Stream → List ℕ
stream_listing command cut s = items_listing command cut first_context s.items ++ ending_listing command (ending_context cut s) s.ending

-- ---- its recut text, as a stream

-- the whole items of the recut text of an ending
abbrev pub ending_items : Cut → Context → Ending → List Item
ending_items cut c NothingMore = []
ending_items cut c (OpenBox h header_bytes more) = []
ending_items cut c (OpenFragment moof h header_bytes more) = fragment_items cut (fragment_here c moof.bytes h) more

-- a box that goes to the end of the stream, where it is kept; nothing where it is left out
abbrev pub kept_ending : Bool → Header → List ℕ → List ℕ → Ending
kept_ending true h header_bytes more = NothingMore
kept_ending false h header_bytes more = OpenBox h header_bytes more

-- the ending of the recut text of an ending: a fragment becomes whole items, and leaves none
abbrev pub ending_recut : Ending → Ending
ending_recut NothingMore = NothingMore
ending_recut (OpenBox h header_bytes more) = kept_ending (is_dropped h.kind.0) h header_bytes more
ending_recut (OpenFragment moof h header_bytes more) = NothingMore

-- the recut text of a stream as a stream
abbrev pub recut : Cut → Stream → Stream
recut cut s = record { items = items_recut cut first_context s.items ++ ending_items cut (ending_context cut s) s.ending; ending = ending_recut s.ending }
