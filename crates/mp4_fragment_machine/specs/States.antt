-- State of the fragment machine, and its place in the stream by that.
use Rattle.std.specs.Prelude.{◌≡◌, ℕ, ◌+◌, ◌-◌, ◌*◌, ◌<◌, ◌≤◌, ◌^◌, Bool, true, false, codes, List, [], length, Option, Some, None}
use Rattle.std.specs.List.{flat_map}
use Rattle.std.specs.Option.{unwrap_or}
use Rattle.mp4_box.specs.Headers.{IsWhole, need}
use Rattle.mp4_box.specs.declared.headers.FourCc.{FourCc}
use Rattle.mp4_box.specs.declared.headers.Header.{Header}
use Rattle.mp4_box.specs.declared.headers.Size.{Size}
use Rattle.mp4_box.specs.declared.headers.Size.TheVariants.{Exact, ToEnd}
use Rattle.mp4_init.specs.declared.table.Track.{Track}
use Rattle.mp4_frag.specs.Moofs.{IsRead, moof_runs, moof_samples, moof_trafs}
use Rattle.mp4_traf.specs.Rules.{most_in_moof}
use Rattle.mp4_frag.specs.RunLists.{taken_runs}
use Rattle.mp4_frag.specs.ListsOfRuns.{IsListOf}
use Rattle.mp4_traf.specs.Runs.{MoofBytes, moof_at}
use Rattle.mp4_traf.specs.Settling.{settled}
use Rattle.mp4_machine.specs.Bodies.{IsLeft, latest_end, longest}
use Rattle.mp4_machine.specs.Buffering.{Begins}
use Rattle.mp4_machine.specs.Inputs.{Continuation}
use Rattle.mp4_machine.specs.Readings.{Effects, says, no_effects, uncounted}
use Rattle.mp4_pieces.specs.declared.cut.Cut.{Cut}
use Rattle.mp4_recut.specs.Cursors.{AreCut, MayBeAt, fragments_left}
use Rattle.mp4_recut.specs.Media.{MediaPosition, Rises, output_from, media_position}
use Rattle.mp4_recut.specs.declared.media.Media.{Media}
use Rattle.mp4_machine.specs.declared.body.Body.{Body}
use Rattle.mp4_machine.specs.declared.body.Extent.{Extent}
use Rattle.mp4_machine.specs.declared.body.Extent.TheVariants as extents
use Rattle.mp4_fragment_machine.specs.declared.state.Recutting.{Recutting}
use Rattle.mp4_recut.specs.declared.operation.Operation.{Operation}
use Rattle.mp4_recut.specs.declared.operation.Operation.TheVariants as operations
use Rattle.mp4_recut.specs.Operations.{operation_meaning, number_in}
use Rattle.mp4_grammar.specs.declared.command.Command.TheVariants.{Samples, Fragments, Records, Check}
use Rattle.mp4_grammar.specs.Contexts.{Context, context, table_of}
use Rattle.mp4_grammar.specs.Items.{fragment}
use Rattle.mp4_grammar.specs.Meanings.{Fragment}
use Rattle.mp4_grammar.specs.Samples.{sample_lines, samples_of_run}
use Rattle.mp4_fragment_machine.specs.Places.{Place, InHeader, InBuffered, InMdatHeader, InBody, InOpenBody, continuation_at}
use Rattle.mp4_fragment_machine.specs.declared.counter.Counter.{Counter}
use Rattle.mp4_fragment_machine.specs.declared.state.State.{State}
use Rattle.mp4_fragment_machine.specs.declared.state.State.TheVariants as states
use Rattle.mp4_fragment_machine.specs.declared.pending_moof.PendingMoof.{PendingMoof}

-- ---- where it is

-- the tracks, if they are known
abbrev pub known : Option (List Track) → List Track
known tracks = unwrap_or tracks []

-- the pending moof, which waits for its mdat or for the end of that
abbrev pub moof_in : PendingMoof → MoofBytes
moof_in w = moof_at w.moof.bytes w.moof.at

-- the tracks after a body, where a moof may be pending
abbrev pub tracks_after : Option (List Track) → Option PendingMoof → Option (List Track)
tracks_after tracks None = tracks
tracks_after tracks (Some w) = Some (settled (known tracks) (moof_trafs (moof_in w) (known tracks)))

-- the context after it, if it ends at an offset
abbrev pub after_body : ℕ → Option (List Track) → Option PendingMoof → ℕ → Context
after_body number tracks w next = context next (tracks_after tracks w) number

-- how many bytes are claimed within that body
abbrev pub claimed_in : Option (List Track) → Option PendingMoof → ℕ
claimed_in tracks None = table_of tracks
claimed_in tracks (Some w) = table_of tracks + w.moof.size + 64 * length w.runs.rows

-- how many bytes the pending moof takes with its run list
abbrev pub taken_by : Option PendingMoof → ℕ
taken_by None = 0
taken_by (Some w) = w.moof.size + 64 * length w.runs.rows

-- how many bytes are claimed in addition to the track table
abbrev pub kept_by : State → ℕ
kept_by (states.Header at) = 0
kept_by (states.Buffering h) = h.size
kept_by (states.MdatHeader w) = taken_by (Some w)
kept_by (states.Body b w) = taken_by w
kept_by (states.Copied b) = 0
kept_by (states.Media r) = taken_by (Some r.pending_moof)

-- position of the media of an mdat that is recut: the next output fragment has this number
abbrev pub position_in : Cut → (number : ℕ) → Option (List Track) → Recutting → MediaPosition
position_in cut number tracks r = media_position cut (moof_in r.pending_moof) (known tracks) (latest_end r.body.extent - r.body.left) number r.media

-- effects of its bytes: only `split` recuts media
abbrev pub recut_effects : Operation → (number : ℕ) → Option (List Track) → Recutting → List ℕ → Effects
recut_effects (operations.List command) number tracks r = λ _. no_effects
recut_effects (operations.Split cut) number tracks r = output_from (position_in cut number tracks r)

-- number of the next output fragment after it: all its pieces are written
abbrev pub number_after : Operation → (number : ℕ) → Option (List Track) → Recutting → ℕ
number_after (operations.List command) number tracks r = number
number_after (operations.Split cut) number tracks r = number + length (fragments_left cut (moof_in r.pending_moof) (known tracks) number r.media.later)

-- place in a body with the effects `emit`, by its extent: the tracks and the number of the next output fragment after it,
-- how many bytes are to come, and how many are claimed meanwhile
abbrev pub in_extent : (emit : List ℕ → Effects) → (at : ℕ) → FourCc → Option (List Track) → (number left own : ℕ) → Extent → Place
in_extent emit at kind tracks number left own (extents.Sized next) = InBody emit at kind (context next tracks number) left own
in_extent emit at kind tracks number left own (extents.Open needed) = InOpenBody emit at kind needed left own

abbrev pub in_body : (emit : List ℕ → Effects) → Option (List Track) → (number own : ℕ) → Body → Place
in_body emit tracks number own b = in_extent emit b.at b.kind tracks number b.left own b.extent

-- place of a machine with this operation, these tracks and these bytes of a header: the next output fragment has this number
abbrev pub place_of : Operation → (number : ℕ) → Option (List Track) → List ℕ → State → Place
place_of operation number tracks header_bytes (states.Header at) = InHeader (context at tracks number) header_bytes
place_of operation number tracks header_bytes (states.Buffering h) = InBuffered (context h.at tracks number) h.kind h.size h.bytes
place_of operation number tracks header_bytes (states.MdatHeader w) = InMdatHeader (context w.moof.at tracks number) (known tracks) w.moof.bytes header_bytes
place_of operation number tracks header_bytes (states.Body b w) = in_body (λ _. no_effects) (tracks_after tracks w) number (claimed_in tracks w) b
place_of operation number tracks header_bytes (states.Copied b) = in_body (λ x. says x) tracks number (table_of tracks) b
place_of operation number tracks header_bytes (states.Media r) = in_body (recut_effects operation number tracks r) (tracks_after tracks (Some r.pending_moof)) (number_after operation number tracks r) (claimed_in tracks (Some r.pending_moof)) r.body

-- ---- what holds of it

-- the moof was read with these tracks, and the list is that of its runs
pub record IsPendingMoof (tracks : Option (List Track)) (w : PendingMoof) : Type 0 where
  pub is_known : tracks ≡ Some (known tracks)
  pub whole : IsWhole w.moof.bytes
  pub size : length w.moof.bytes ≡ w.moof.size
  pub near : w.moof.at + w.moof.size ≤ longest
  pub read : IsRead (moof_in w) (known tracks)
  pub list : IsListOf (moof_in w) (known tracks) w.runs
  pub len : length w.runs.rows ≡ length (moof_runs (moof_in w) (known tracks))

-- the same where a moof is pending
abbrev pub MayBePending : Option (List Track) → Option PendingMoof → Type 0
MayBePending tracks None = Unit {0}
MayBePending tracks (Some w) = IsPendingMoof tracks w

-- media of a pending moof, whose next output fragment has this number: where no byte of a span is left no output fragment is, and all numbers have 32 bits
pub record AreMediaOf (cut : Cut) (tracks : List Track) (w : PendingMoof) (number : ℕ) (m : Media) : Type 0 where
  pub pending_moof : IsPendingMoof (Some tracks) w
  pub are_cut : AreCut cut (moof_in w) tracks
  pub at : MayBeAt cut (moof_in w) tracks m.later
  pub no_head_ready : m.copy_span.left ≡ 0 → fragments_left cut (moof_in w) tracks number m.later ≡ []
  pub numbers : number + length (fragments_left cut (moof_in w) tracks number m.later) ≤ 2 ^ 32

-- the rest of the media ends within the mdat, if that states its size
abbrev pub RisesIn : Extent → MediaPosition → Type 0
RisesIn (extents.Sized next) p = Rises next p
RisesIn (extents.Open needed) p = Unit {0}

-- media that are being recut, of a body of which so much is left
pub record IsRecut (cut : Cut) (tracks : List Track) (number left : ℕ) (e : Extent) (m : Media) (w : PendingMoof) : Type 0 where
  pub body : IsLeft left e
  pub media : AreMediaOf cut tracks w number m
  pub rises : RisesIn e (media_position cut (moof_in w) tracks (latest_end e - left) number m)

-- only `split` recuts media
abbrev pub IsRecutBy : Operation → (number : ℕ) → Option (List Track) → Recutting → Type 0
IsRecutBy (operations.List command) number tracks r = ⊥
IsRecutBy (operations.Split cut) number tracks r = IsRecut cut (known tracks) number r.body.left r.body.extent r.media r.pending_moof

-- only in a header there are bytes of one; the next output fragment has this number
abbrev pub IsState : Operation → (number : ℕ) → Option (List Track) → List ℕ → State → Type 0
IsState operation number tracks header_bytes (states.Header at) = (length header_bytes < need header_bytes) × (at ≤ longest)
IsState operation number tracks header_bytes (states.Buffering h) = (header_bytes ≡ []) × (length h.bytes < h.size) × (h.at + h.size ≤ longest) × Begins h.size h.bytes
IsState operation number tracks header_bytes (states.MdatHeader w) = (length header_bytes < need header_bytes) × IsPendingMoof tracks w
IsState operation number tracks header_bytes (states.Body b w) = (header_bytes ≡ []) × IsLeft b.left b.extent × MayBePending tracks w
IsState operation number tracks header_bytes (states.Copied b) = (header_bytes ≡ []) × IsLeft b.left b.extent
IsState operation number tracks header_bytes (states.Media r) = (header_bytes ≡ []) × (tracks ≡ Some (known tracks)) × IsRecutBy operation number tracks r

-- ---- the fragment of the pending moof

-- with an mdat directly after it that has this header
abbrev pub pending_fragment : ℕ → PendingMoof → List Track → Header → Fragment
pending_fragment number w tracks h = fragment (context w.moof.at (Some tracks) number) tracks w.moof.bytes h

-- place in that mdat, which begins at an offset, by its stated size: so many bytes of its payload are needed
abbrev pub in_mdat : ℕ → Option (List Track) → PendingMoof → ℕ → Header → ℕ → Size → Place
in_mdat number tracks w at h needed (Exact s) = InBody (λ _. no_effects) at h.kind (after_body number tracks (Some w) (at + s)) (s - h.header_len) (claimed_in tracks (Some w))
in_mdat number tracks w at h needed ToEnd = InOpenBody (λ _. no_effects) at h.kind needed (longest - (at + h.header_len)) (claimed_in tracks (Some w))

-- ---- what the machine has counted

-- upper bound of all counts except rows and samples
abbrev pub most_counted : ℕ
most_counted = 3 * 2 ^ 62

-- how many samples the pending moof has
abbrev pub samples_of : Option PendingMoof → ℕ
samples_of None = 0
samples_of (Some w) = moof_samples (moof_in w)

-- the bound within a body
abbrev pub bound_in : Extent → ℕ
bound_in (extents.Sized next) = next
bound_in (extents.Open needed) = most_counted

-- the bound after the header of an mdat at an offset
abbrev pub bound_after : ℕ → Size → ℕ
bound_after at (Exact s) = at + s
bound_after at ToEnd = most_counted

-- reads of each row while its run is recut
abbrev pub reads_per_row : Bool → ℕ
reads_per_row true = 7
reads_per_row false = 3

-- least number of rows read where n samples are recut: for their pieces, for the samples of each, for its moof.
-- With an index, two more for the sizes and times of its references, two for the pieces of its groups, and two
-- for the check that it has room for them
abbrev pub cut_least : Bool → ℕ → ℕ
cut_least true n = 9 * n
cut_least false n = 3 * n

-- greatest number: the pieces are counted first where they may be too many for the numbers that are left
abbrev pub cut_most : Bool → ℕ → ℕ
cut_most true n = 9 * n
cut_most false n = 5 * n

-- least number of rows read to list or recut n samples
abbrev pub listed_by : Operation → ℕ → ℕ
listed_by (operations.List Samples) n = n
listed_by (operations.List Fragments) n = 2 * n
listed_by (operations.List Records) n = 2 * n
listed_by (operations.List Check) n = 0
listed_by (operations.Split cut) n = cut_least cut.index n

-- and the greatest
abbrev pub listed_most : Operation → ℕ → ℕ
listed_most (operations.List command) n = listed_by (operations.List command) n
listed_most (operations.Split cut) n = cut_most cut.index n

-- greatest number of reads of each row: when its moof is read, for the run list, for its line or
-- its recutting, and after the fragment
abbrev pub cut_reads : Bool → ℕ
cut_reads true = 12
cut_reads false = 8

abbrev pub reads_of : Operation → ℕ
reads_of (operations.List Samples) = 4
reads_of (operations.List Fragments) = 5
reads_of (operations.List Records) = 5
reads_of (operations.List Check) = 3
reads_of (operations.Split cut) = cut_reads cut.index

-- greatest number of fragments counted up to an offset: at most one for each byte before it, and as many as have numbers of 32 bits
abbrev pub most_fragments : Operation → ℕ → ℕ
most_fragments (operations.List command) bound = bound
most_fragments (operations.Split cut) bound = 2 ^ 32 - 1

-- of the samples of inspected moofs, `unlisted` wait for their mdat, and `unsettled` for its end. Each was read once,
-- those that wait or are counted once more, and again where they are listed
pub record IsCounted (operation : Operation) (c : Counter) (bound unlisted unsettled : ℕ) : Type 0 where
  pub fragments : c.tally.fragments ≤ most_fragments operation bound
  pub media : c.tally.media_bytes ≤ bound
  pub inspected : c.tally.inspected ≤ most_in_moof * bound
  pub samples : c.tally.samples ≤ most_in_moof * bound
  pub all : c.tally.samples + unlisted ≤ c.tally.inspected
  pub some : c.tally.inspected + c.tally.samples + unlisted + listed_by operation c.tally.samples ≤ c.steps.rows
  pub few : c.steps.rows + listed_most operation unlisted + unsettled ≤ reads_of operation * c.tally.inspected
  pub far : bound ≤ most_counted

-- by the state
abbrev pub HasCounted : Operation → State → Counter → Type 0
HasCounted operation (states.Header at) c = IsCounted operation c at 0 0
HasCounted operation (states.Buffering h) c = IsCounted operation c h.at 0 0
HasCounted operation (states.MdatHeader w) c = IsCounted operation c (w.moof.at + w.moof.size) (moof_samples (moof_in w)) (moof_samples (moof_in w))
HasCounted operation (states.Body b w) c = IsCounted operation c (bound_in b.extent) 0 (samples_of w)
HasCounted operation (states.Copied b) c = IsCounted operation c (bound_in b.extent) 0 0
HasCounted operation (states.Media r) c = IsCounted operation c (bound_in r.body.extent) 0 (moof_samples (moof_in r.pending_moof))

-- after a stop
abbrev pub HasStopped : Operation → Counter → Type 0
HasStopped operation c = IsCounted operation c most_counted 0 0

-- ---- a machine

-- state after a stop: nothing is claimed
abbrev pub stopped : State
stopped = states.Body (record { at = 0; kind = record { 0 = codes "mdat" }; left = 0; extent = extents.Open 0 }) None

-- the visible part of a machine: the operation, the tracks, the bytes of a header so far, the state, and what it has counted
pub record Progress : Type 0 where
  pub operation : Operation
  pub tracks : Option (List Track)
  pub header_bytes : List ℕ
  pub state : State
  pub counter : Counter

-- one to which no byte has come
abbrev pub begun : Operation → Progress
begun operation = record {
  operation = operation;
  tracks = None;
  header_bytes = [];
  state = states.Header 0;
  counter = record { tally = uncounted; steps = record { rows = 0 } };
}

-- its place
abbrev pub place_in : Progress → Place
place_in p = place_of p.operation (number_in p.operation p.counter.tally) p.tracks p.header_bytes p.state

abbrev pub continuation_in : Progress → Continuation
continuation_in p = continuation_at (operation_meaning p.operation) (place_in p)

-- its counts are bounded by its place in the stream
abbrev pub IsMachine : Operation → Option (List Track) → List ℕ → State → Counter → Type 0
IsMachine operation tracks header_bytes s c = IsState operation (number_in operation c.tally) tracks header_bytes s × HasCounted operation s c

-- ---- what it lists

-- lines of the samples of the pending moof, its runs in the order in which they are taken
abbrev pub lines_of : PendingMoof → List Track → List ℕ
lines_of w tracks = sample_lines (flat_map (samples_of_run w.moof.bytes) (taken_runs (moof_in w) tracks))
