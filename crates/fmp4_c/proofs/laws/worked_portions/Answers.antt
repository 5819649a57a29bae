use Rattle.std.proofs.Common.{refl, arith}
use Rattle.mp4_box.specs.Headers.{header_at}
use Rattle.mp4_grammar.specs.Kinds.{kind_in}
use Rattle.fmp4_c.specs.Portions.{last_mdat}
use Rattle.fmp4_c.proofs.laws.worked_portions.Goals as goal

pub returns-clause-free : goal.returns-clause-free
returns-clause-free c = λ r len. omega (arith, len)

pub returns-clause-none_free : goal.returns-clause-none_free
returns-clause-none_free c = λ r len. omega (arith, len)

pub returns-clause-share : goal.returns-clause-share
returns-clause-share c = refl

pub returns-clause-least : goal.returns-clause-least
returns-clause-least c = refl

pub returns-clause-most : goal.returns-clause-most
returns-clause-most c = refl

pub returns-clause-whole : goal.returns-clause-whole
returns-clause-whole c = refl

pub returns-clause-mdats : goal.returns-clause-mdats
unfolding last_mdat header_at kind_in
returns-clause-mdats c = refl

pub returns-clause-after_a_body : goal.returns-clause-after_a_body
unfolding last_mdat header_at kind_in
returns-clause-after_a_body c = refl

pub returns-clause-moof : goal.returns-clause-moof
unfolding last_mdat header_at kind_in
returns-clause-moof c = refl

pub returns-clause-no_box : goal.returns-clause-no_box
unfolding last_mdat header_at kind_in
returns-clause-no_box c = refl

pub returns-clause-body : goal.returns-clause-body
unfolding last_mdat header_at kind_in
returns-clause-body c = refl

pub returns-clause-all : goal.returns-clause-all
returns-clause-all c = refl
