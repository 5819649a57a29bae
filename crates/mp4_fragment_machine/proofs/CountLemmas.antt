-- What a machine counts stays within what offsets of the stream bound.
use Rattle.std.proofs.Common.{◌≡◌, ◌∙◌, Bool, true, false, ℕ, ◌+◌, ◌*◌, ◌^◌, ◌<◌, ◌≤◌, List, Option, None, Some, IsSome, ap, sym, refl, subst, arith}
use Rattle.mp4_box.specs.Headers.{HasRoom}
use Rattle.mp4_box.specs.declared.headers.Header.{Header}
use Rattle.mp4_box.specs.declared.headers.Size.{Size}
use Rattle.mp4_box.specs.declared.headers.Size.TheVariants.{Exact, ToEnd}
use Rattle.mp4_box.specs.declared.rules.Fault.{Fault}
use Rattle.mp4_run_order.specs.declared.runs.Payload.{Payload}
use Rattle.mp4_init.specs.declared.table.Track.{Track}
use Rattle.mp4_frag.specs.Moofs.{fault_before_times, moof_samples}
use Rattle.mp4_traf.specs.Runs.{MoofBytes}
use Rattle.mp4_pieces.specs.declared.cut.Cut.{Cut}
use Rattle.mp4_machine.specs.Bodies.{least_end, longest}
use Rattle.mp4_machine.specs.Readings.{plus, accepts}
use Rattle.mp4_grammar.specs.Items.{end_of, inspected}
use Rattle.mp4_grammar.specs.declared.command.Command.{Command}
use Rattle.mp4_grammar.specs.declared.command.Command.TheVariants.{Samples, Fragments, Records, Check}
use Rattle.mp4_recut.specs.declared.operation.Operation.{Operation}
use Rattle.mp4_recut.specs.declared.operation.Operation.TheVariants as operations
use Rattle.mp4_fragment_machine.specs.States.{IsCounted, bound_after, cut_least, cut_most, cut_reads, listed_by, listed_most, most_counted, most_fragments, reads_of}
use Rattle.mp4_fragment_machine.specs.declared.counter.Counter.{Counter}
use Rattle.mp4_fragment_machine.specs.Implementation.Recuts.{with_fragments}

-- ---- the rows of samples that are recut

sum_split : (b : Bool) (m n : ℕ) → cut_least b (m + n) ≡ cut_least b m + cut_least b n
sum_split true m n = omega arith
sum_split false m n = omega arith

none_split : (b : Bool) → cut_most b 0 ≡ 0
none_split true = omega arith
none_split false = omega arith

-- n samples of a moof were read, and listed where some wait
moof_split : (b : Bool) (rows rows' inspected inspected' n waits : ℕ) → rows + cut_most b 0 + 0 ≤ cut_reads b * inspected → inspected' ≡ inspected + n → rows' ≡ rows + (n + waits) → waits ≤ n → rows' + cut_most b waits + waits ≤ cut_reads b * inspected'
moof_split true rows rows' inspected inspected' n waits few w r less = omega (arith, few, w, r, less)
moof_split false rows rows' inspected inspected' n waits few w r less = omega (arith, few, w, r, less)

-- further on no fewer fragments may be counted
pub more_fragments : (operation : Operation) (b b' : ℕ) → b ≤ b' → most_fragments operation b ≤ most_fragments operation b'
more_fragments (operations.List command) b b' h = h
more_fragments (operations.Split cut) b b' h = omega arith

-- nothing more was counted
pub counted_later : (operation : Operation) (c : Counter) (b b' unsettled unsettled' : ℕ) → b ≤ b' → unsettled' ≤ unsettled → b' ≤ most_counted → IsCounted operation c b 0 unsettled → IsCounted operation c b' 0 unsettled'
counted_later operation c b b' unsettled unsettled' more less near i = record {
  fragments = omega (arith, i.fragments, more_fragments operation b b' more);
  media = omega (arith, i.media, more);
  inspected = omega (arith, i.inspected, more);
  samples = omega (arith, i.samples, more);
  all = i.all;
  some = i.some;
  few = omega (arith, i.few, less);
  far = near;
}

-- a moof of so many bytes was inspected: so many rows were read, and so many of its samples wait
pub counted_moof : (operation : Operation) (c c' : Counter) (h : MoofBytes) (at size rows waits : ℕ) → IsCounted operation c at 0 0 → 0 < size → at + size ≤ longest → moof_samples h ≤ 1000000 → c'.tally ≡ plus c.tally (inspected h) → c'.steps.rows ≡ c.steps.rows + rows → rows ≡ moof_samples h + waits → waits ≤ moof_samples h
    → IsCounted operation c' (at + size) waits waits
counted_moof operation c c' h at size rows waits i some near few tally read all less =
    let f = ap (λ t. t.fragments) tally in
    let m = ap (λ t. t.media_bytes) tally in
    let w = ap (λ t. t.inspected) tally in
    let s = ap (λ t. t.samples) tally in
    record {
      fragments = omega (arith, f, i.fragments, more_fragments operation at (at + size) (omega arith));
      media = omega (arith, m, i.media);
      inspected = omega (arith, w, i.inspected, some, few);
      samples = omega (arith, s, i.samples);
      all = omega (arith, s, w, i.all, less);
      some = least operation i;
      few = most operation i;
      far = omega (arith, near);
    }
  where
    least : (operation : Operation) → IsCounted operation c at 0 0 → c'.tally.inspected + c'.tally.samples + waits + listed_by operation c'.tally.samples ≤ c'.steps.rows
    least (operations.List Samples) i = omega (arith, ap (λ t. t.inspected) tally, ap (λ t. t.samples) tally, read, all, i.some)
    least (operations.List Fragments) i = omega (arith, ap (λ t. t.inspected) tally, ap (λ t. t.samples) tally, read, all, i.some)
    least (operations.List Records) i = omega (arith, ap (λ t. t.inspected) tally, ap (λ t. t.samples) tally, read, all, i.some)
    least (operations.List Check) i = omega (arith, ap (λ t. t.inspected) tally, ap (λ t. t.samples) tally, read, all, i.some)
    least (operations.Split cut) i =
        let more = ap (λ t. t.samples) tally in
        omega (arith, ap (λ t. t.inspected) tally, more, ap (cut_least cut.index) more, sum_split cut.index c.tally.samples 0, sum_split cut.index 0 0, read, all, i.some)

    most : (operation : Operation) → IsCounted operation c at 0 0 → c'.steps.rows + listed_most operation waits + waits ≤ reads_of operation * c'.tally.inspected
    most (operations.List Samples) i = omega (arith, ap (λ t. t.inspected) tally, read, all, less, i.few)
    most (operations.List Fragments) i = omega (arith, ap (λ t. t.inspected) tally, read, all, less, i.few)
    most (operations.List Records) i = omega (arith, ap (λ t. t.inspected) tally, read, all, less, i.few)
    most (operations.List Check) i = omega (arith, ap (λ t. t.inspected) tally, read, all, less, i.few)
    most (operations.Split cut) i = moof_split cut.index c.steps.rows c'.steps.rows c.tally.inspected c'.tally.inspected (moof_samples h) waits i.few (ap (λ t. t.inspected) tally) (omega (arith, read, all)) less

-- a moof that is at fault
pub counted_judged : (operation : Operation) (c c' : Counter) (h : MoofBytes) (tracks : List Track) (at size : ℕ) → IsCounted operation c at 0 0 → 0 < size → at + size ≤ longest → (fault_before_times h tracks ≡ None → moof_samples h ≤ 1000000)
    → (fault_before_times h tracks ≡ None → c'.tally ≡ plus c.tally (inspected h)) → (fault_before_times h tracks ≡ None → c'.steps.rows ≡ c.steps.rows + moof_samples h) → (IsSome (fault_before_times h tracks) → c' ≡ c) → IsCounted operation c' (at + size) 0 0
counted_judged operation c c' h tracks at size i some near few tally rows none = by (fault_before_times h tracks) refl
  where
    by : (e : Option Fault) → fault_before_times h tracks ≡ e → IsCounted operation c' (at + size) 0 0
    by None is = counted_moof operation c c' h at size (moof_samples h) 0 i some near (few is) (tally is) (rows is) (omega arith) (omega arith)
    by (Some g) is = subst (λ k. IsCounted operation k (at + size) 0 0) (sym (none (rw is refl))) (counted_later operation c at (at + size) 0 0 (omega arith) (omega arith) (omega (arith, near)) i)

-- ---- a fragment whose mdat is accepted

-- it is counted, and its samples were read once more where they are listed
pub counted_emitted : (command : Command) (c c' : Counter) (b b' n m : ℕ) → IsCounted (operations.List command) c b n n → n ≤ 1000000 → (b + 1 ≤ b') × (b + m ≤ b') × (b' ≤ most_counted) → c'.tally ≡ plus c.tally (accepts n m) → c'.steps.rows ≡ c.steps.rows + listed_by (operations.List command) n
    → IsCounted (operations.List command) c' b' 0 n
counted_emitted command c c' b b' n m i few room tally read =
    let f = ap (λ t. t.fragments) tally in
    let e = ap (λ t. t.media_bytes) tally in
    let w = ap (λ t. t.inspected) tally in
    let s = ap (λ t. t.samples) tally in
    record {
      fragments = omega (arith, f, i.fragments, room.0);
      media = omega (arith, e, i.media, room.1);
      inspected = omega (arith, w, i.inspected, room.0);
      samples = omega (arith, s, i.samples, few, room.0);
      all = omega (arith, s, w, i.all);
      some = least command i read;
      few = most command i read;
      far = room.2;
    }
  where
    least : (command : Command) → IsCounted (operations.List command) c b n n → c'.steps.rows ≡ c.steps.rows + listed_by (operations.List command) n → c'.tally.inspected + c'.tally.samples + 0 + listed_by (operations.List command) c'.tally.samples ≤ c'.steps.rows
    least Samples i read = omega (arith, ap (λ t. t.inspected) tally, ap (λ t. t.samples) tally, read, i.some)
    least Fragments i read = omega (arith, ap (λ t. t.inspected) tally, ap (λ t. t.samples) tally, read, i.some)
    least Records i read = omega (arith, ap (λ t. t.inspected) tally, ap (λ t. t.samples) tally, read, i.some)
    least Check i read = omega (arith, ap (λ t. t.inspected) tally, ap (λ t. t.samples) tally, read, i.some)

    most : (command : Command) → IsCounted (operations.List command) c b n n → c'.steps.rows ≡ c.steps.rows + listed_by (operations.List command) n → c'.steps.rows + listed_most (operations.List command) 0 + n ≤ reads_of (operations.List command) * c'.tally.inspected
    most Samples i read = omega (arith, ap (λ t. t.inspected) tally, read, i.few)
    most Fragments i read = omega (arith, ap (λ t. t.inspected) tally, read, i.few)
    most Records i read = omega (arith, ap (λ t. t.inspected) tally, read, i.few)
    most Check i read = omega (arith, ap (λ t. t.inspected) tally, read, i.few)

-- it is counted where it is recut, with fragments that have room for their numbers
pub counted_split : (cut : Cut) (c c' : Counter) (b b' n m : ℕ) → IsCounted (operations.Split cut) c b n n → n ≤ 1000000 → (b + 1 ≤ b') × (b + m ≤ b') × (b' ≤ most_counted) → c'.tally.fragments + 1 ≤ 2 ^ 32
    → c'.tally.samples ≡ c.tally.samples + n → c'.tally.media_bytes ≡ c.tally.media_bytes + m → c'.tally.inspected ≡ c.tally.inspected → c.steps.rows + cut_least cut.index n ≤ c'.steps.rows → c'.steps.rows ≤ c.steps.rows + cut_most cut.index n → IsCounted (operations.Split cut) c' b' 0 n
counted_split cut c c' b b' n m i few room fits samples media inspected least most = record {
  fragments = omega (arith, fits);
  media = omega (arith, media, i.media, room.1);
  inspected = omega (arith, inspected, i.inspected, room.0);
  samples = omega (arith, samples, i.samples, few, room.0);
  all = omega (arith, samples, inspected, i.all);
  some = omega (arith, samples, inspected, least, i.some, ap (cut_least cut.index) samples, sum_split cut.index c.tally.samples n);
  few = subst (λ w. c'.steps.rows + cut_most cut.index 0 + n ≤ cut_reads cut.index * w) (sym inspected) (omega (arith, most, i.few, none_split cut.index));
  far = room.2;
}

-- it is refused: it isn't counted
pub counted_refused : (cut : Cut) (c c' : Counter) (b n : ℕ) → IsCounted (operations.Split cut) c b n n → b ≤ most_counted → c'.tally ≡ c.tally → c.steps.rows ≤ c'.steps.rows → c'.steps.rows ≤ c.steps.rows + cut_most cut.index n → IsCounted (operations.Split cut) c' most_counted 0 0
counted_refused cut c c' b n i near same least most =
    let f = ap (λ t. t.fragments) same in
    let m = ap (λ t. t.media_bytes) same in
    let w = ap (λ t. t.inspected) same in
    let s = ap (λ t. t.samples) same in
    record {
      fragments = omega (arith, f, i.fragments);
      media = omega (arith, m, i.media, near);
      inspected = omega (arith, w, i.inspected, near);
      samples = omega (arith, s, i.samples, near);
      all = omega (arith, s, w, i.all);
      some = omega (arith, s, w, i.some, least, ap (cut_least cut.index) s);
      few = subst (λ k. c'.steps.rows + cut_most cut.index 0 + 0 ≤ cut_reads cut.index * k) (sym w) (omega (arith, most, i.few, none_split cut.index));
      far = omega arith;
    }

-- its tracks end, for which the rows of its samples were read once more at most
pub counted_ended : (operation : Operation) (c c' : Counter) (b n : ℕ) → IsCounted operation c b 0 n → c'.tally ≡ c.tally → c.steps.rows ≤ c'.steps.rows → c'.steps.rows ≤ c.steps.rows + n → IsCounted operation c' b 0 0
counted_ended operation c c' b n i tally least most = record {
  fragments = rw tally i.fragments;
  media = rw tally i.media;
  inspected = rw tally i.inspected;
  samples = rw tally i.samples;
  all = rw tally i.all;
  some = rw tally (omega (arith, i.some, least));
  few = rw tally (omega (arith, i.few, most));
  far = i.far;
}

no_most : (b : Bool) (n : ℕ) → cut_most b 0 ≤ cut_most b n
no_most true n = omega arith
no_most false n = omega arith

no_listed : (operation : Operation) (n : ℕ) → listed_most operation 0 ≤ listed_most operation n
no_listed (operations.List Samples) n = omega arith
no_listed (operations.List Fragments) n = omega arith
no_listed (operations.List Records) n = omega arith
no_listed (operations.List Check) n = omega arith
no_listed (operations.Split cut) n = no_most cut.index n

-- it stops where a moof waits, of so many samples: they aren't listed
pub counted_unlisted : (operation : Operation) (c : Counter) (b n : ℕ) → IsCounted operation c b n n → IsCounted operation c most_counted 0 0
counted_unlisted operation c b n i = record {
  fragments = omega (arith, i.fragments, more_fragments operation b most_counted i.far);
  media = omega (arith, i.media, i.far);
  inspected = omega (arith, i.inspected, i.far);
  samples = omega (arith, i.samples, i.far);
  all = omega (arith, i.all);
  some = omega (arith, i.some);
  few = omega (arith, i.few, no_listed operation n);
  far = omega arith;
}

-- its media lie in its mdat, whose header begins where the moof ends
pub media_bound : (at next m : ℕ) (h : Header) (size : Size) (p : Payload) → next ≡ at → p.start ≡ next + h.header_len → p.end ≡ end_of next size → HasRoom size h.header_len → 0 < h.header_len → least_end at h size ≤ longest → ((e : ℕ) → p.end ≡ Some e → p.start + m ≤ e) → m ≤ 2 ^ 63
    → (at + 1 ≤ bound_after at size) × (at + m ≤ bound_after at size) × (bound_after at size ≤ most_counted)
media_bound at next m h (Exact s) p is start end room some near within most =
    let last : p.start + m ≤ next + s = within (next + s) end in
    (omega (arith, room, some), omega (arith, last, start, is), omega (arith, near))
media_bound at next m h ToEnd p is start end room some near within most = (omega (arith, near), omega (arith, near, most), omega arith)

module _ (at next n s m : ℕ) (h : Header) (p : Payload) (is : next ≡ at) (start : p.start ≡ next + h.header_len) (end : p.end ≡ end_of next h.size) (room : HasRoom h.size h.header_len) (some : 0 < h.header_len) (near : least_end at h h.size ≤ longest)
    (within : (e : ℕ) → p.end ≡ Some e → p.start + m ≤ e) (most : m ≤ 2 ^ 63) (samples : s ≡ n) (few : s ≤ 1000000) where
  -- it is counted, and listed where that is asked for
  pub counted_listed : (command : Command) (c c' : Counter) → IsCounted (operations.List command) c at n n → c'.tally ≡ plus c.tally (accepts s m) → c'.steps.rows ≡ c.steps.rows + listed_by (operations.List command) n
      → IsCounted (operations.List command) c' (bound_after at h.size) 0 n
  counted_listed command c c' i tally read = counted_emitted command c c' at (bound_after at h.size) n m i (omega (arith, samples, few)) (media_bound at next m h h.size p is start end room some near within most)
      (tally ∙ ap (λ k. plus c.tally (accepts k m)) samples) read

  -- it is counted, and begun to be recut
  pub counted_begun : (cut : Cut) (c c' : Counter) (k : ℕ) → c'.tally.fragments + 1 ≤ 2 ^ 32 → c'.tally ≡ record c.tally { fragments = c'.tally.fragments; samples = c.tally.samples + n; media_bytes = c.tally.media_bytes + k } → m ≡ k
      → c.steps.rows + cut_least cut.index s ≤ c'.steps.rows → c'.steps.rows ≤ c.steps.rows + cut_most cut.index s → IsCounted (operations.Split cut) c at n n → IsCounted (operations.Split cut) c' (bound_after at h.size) 0 n
  counted_begun cut c c' k fits tally bytes low high i = counted_split cut c c' at (bound_after at h.size) n m i (omega (arith, samples, few)) (media_bound at next m h h.size p is start end room some near within most) fits
      (ap (λ t. t.samples) tally) (ap (λ t. t.media_bytes) tally ∙ ap (λ q. c.tally.media_bytes + q) (sym bytes)) (ap (λ t. t.inspected) tally) (rw samples at low) (rw samples at high)

-- more of its parts were written, which have room for their numbers
pub counted_recut : (cut : Cut) (c c' : Counter) (b b' n n' : ℕ) → IsCounted (operations.Split cut) c b 0 n → b ≤ b' → b' ≤ most_counted → c'.tally.fragments + 1 ≤ 2 ^ 32 → c'.tally ≡ with_fragments c.tally c'.tally.fragments → c.steps.rows ≤ c'.steps.rows → c'.steps.rows + n' ≤ c.steps.rows + n → IsCounted (operations.Split cut) c' b' 0 n'
counted_recut cut c c' b b' n n' i low far few tally least most =
    let s = ap (λ t. t.samples) tally in
    let m = ap (λ t. t.media_bytes) tally in
    let w = ap (λ t. t.inspected) tally in
    record {
      fragments = omega (arith, few);
      media = omega (arith, m, i.media, low);
      inspected = omega (arith, w, i.inspected, low);
      samples = omega (arith, s, i.samples, low);
      all = omega (arith, s, w, i.all);
      some = omega (arith, s, w, i.some, least, ap (cut_least cut.index) s);
      few = subst (λ k. c'.steps.rows + cut_most cut.index 0 + n' ≤ cut_reads cut.index * k) (sym w) (omega (arith, i.few, most));
      far = far;
    }
