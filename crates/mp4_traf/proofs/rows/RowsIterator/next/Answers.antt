use Rattle.std.proofs.Common.{◌≡◌, List, ℕ, ◌+◌, ◌<◌, ◌∙◌, arith, sym, ap, drop, ◌∷◌}
use Rattle.mp4_traf.specs.Rows.{row_from, row_of, rows_after}
use Rattle.mp4_traf.proofs.RowLemmas.{groups_next, row_after, rows_next}
use Rattle.mp4_traf.proofs.rows.RowsIterator.next.Goals as goal

pub returns-clause-steps : goal.returns-clause-steps
returns-clause-steps c =
    let r = c.self.inside in
    let h : r.index < r.run.count = omega arith in
    let same : c.row_in-row.result ≡ row_of r.run r.moof_bytes.now r.index =
    c.row_in-row.ensures ∙ ap (λ (bytes : List ℕ). row_from r.run bytes r.index 0) c.self.invariant.1 ∙ row_after r.run r.moof_bytes.now r.index in
    sym c.self.view_is ∙ (rows_next r.run r.moof_bytes.now r.index h ∙ ap (λ x. x ∷ rows_after r.run r.moof_bytes.now (r.index + 1)) (sym same))

pub returns-clause-goes : goal.returns-clause-goes
returns-clause-goes c =
    let r = c.self.inside in
    let h : r.index < r.run.count = omega arith in
    rw (← c.self.view_is, rows_next r.run r.moof_bytes.now r.index h) (record { on = λ _. (tt, tt, omega arith); keeps = tt; rests = λ _. tt })

pub invariant_of-self : goal.invariant_of-self
invariant_of-self c =
    let r = c.self.inside in (
      omega arith,
      c.after_group-self-inside.ensures ∙ ap (drop r.run.fields.len) c.self.invariant.1 ∙ groups_next r.run r.moof_bytes.now r.index,
    )
