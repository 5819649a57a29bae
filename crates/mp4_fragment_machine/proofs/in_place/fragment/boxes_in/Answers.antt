use Rattle.std.proofs.Common.{sym, subst}
use Rattle.mp4_box.specs.Headers.{IsBytes}
use Rattle.mp4_box.proofs.HeaderLemmas.{IsBytes-take}
use Rattle.mp4_fragment_machine.proofs.in_place.fragment.boxes_in.Goals as goal

pub returns-in-Mdat-clause-are : goal.returns-in-Mdat-clause-are
returns-in-Mdat-clause-are c =
    record {
      span = c.args.moof.now;
      moof = c.requires.moof;
      most = c.requires.most;
      bytes = c.split_at.ensures.front;
      valid = subst IsBytes (sym c.split_at.ensures.front) (IsBytes-take c.args.moof.now.size c.args.input.now (λ i. (c.type_inv.input i).fits));
      mdat = rw (c.split_at.ensures.back, ← c.kind_of.ensures, c.in-Mdat.is) at c.in-Some.ensures;
    }
