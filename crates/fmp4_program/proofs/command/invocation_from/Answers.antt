use Rattle.std.proofs.Common.{◌≡◌, rules, refl, codes, true, false}
use Rattle.std.specs.Str.{bytes_eq}
use Rattle.fmp4_program.specs.Words.{invocation_of, split_of}
use Rattle.fmp4_program.proofs.command.invocation_from.Goals as goal

pub returns-in_err-settings_from-clause-value : goal.returns-in_err-settings_from-clause-value
unfolding invocation_of
returns-in_err-settings_from-clause-value c =
    let is_boxes : bytes_eq c.args.name.now (codes "boxes") ≡ true = search rules in
    rw (is_boxes, ← c.in_err-settings_from.ensures.value) (search rules)

pub returns-then-eq-clause-value : goal.returns-then-eq-clause-value
unfolding invocation_of
returns-then-eq-clause-value c =
    let is_boxes : bytes_eq c.args.name.now (codes "boxes") ≡ true = search rules in
    rw (is_boxes, ← c.in_ok-settings_from.ensures.value) refl

pub returns-in_err-settings_from-2-clause-value : goal.returns-in_err-settings_from-2-clause-value
unfolding invocation_of
returns-in_err-settings_from-2-clause-value c =
    let not_boxes : bytes_eq c.args.name.now (codes "boxes") ≡ false = search rules in
    let is_samples : bytes_eq c.args.name.now (codes "samples") ≡ true = search rules in
    rw (not_boxes, is_samples, ← c.in_err-settings_from-2.ensures.value) (search rules)

pub returns-then-eq-2-clause-value : goal.returns-then-eq-2-clause-value
unfolding invocation_of
returns-then-eq-2-clause-value c =
    let not_boxes : bytes_eq c.args.name.now (codes "boxes") ≡ false = search rules in
    let is_samples : bytes_eq c.args.name.now (codes "samples") ≡ true = search rules in
    rw (not_boxes, is_samples, ← c.in_ok-settings_from-2.ensures.value) refl

pub returns-in_err-settings_from-3-clause-value : goal.returns-in_err-settings_from-3-clause-value
unfolding invocation_of
returns-in_err-settings_from-3-clause-value c =
    let not_boxes : bytes_eq c.args.name.now (codes "boxes") ≡ false = search rules in
    let not_samples : bytes_eq c.args.name.now (codes "samples") ≡ false = search rules in
    let is_fragments : bytes_eq c.args.name.now (codes "fragments") ≡ true = search rules in
    rw (not_boxes, not_samples, is_fragments, ← c.in_err-settings_from-3.ensures.value) (search rules)

pub returns-then-eq-3-clause-value : goal.returns-then-eq-3-clause-value
unfolding invocation_of
returns-then-eq-3-clause-value c =
    let not_boxes : bytes_eq c.args.name.now (codes "boxes") ≡ false = search rules in
    let not_samples : bytes_eq c.args.name.now (codes "samples") ≡ false = search rules in
    let is_fragments : bytes_eq c.args.name.now (codes "fragments") ≡ true = search rules in
    rw (not_boxes, not_samples, is_fragments, ← c.in_ok-settings_from-3.ensures.value) refl

pub returns-in_err-settings_from-4-clause-value : goal.returns-in_err-settings_from-4-clause-value
unfolding invocation_of
returns-in_err-settings_from-4-clause-value c =
    let not_boxes : bytes_eq c.args.name.now (codes "boxes") ≡ false = search rules in
    let not_samples : bytes_eq c.args.name.now (codes "samples") ≡ false = search rules in
    let not_fragments : bytes_eq c.args.name.now (codes "fragments") ≡ false = search rules in
    let is_check : bytes_eq c.args.name.now (codes "check") ≡ true = search rules in
    rw (not_boxes, not_samples, not_fragments, is_check, ← c.in_err-settings_from-4.ensures.value) (search rules)

pub returns-then-eq-4-clause-value : goal.returns-then-eq-4-clause-value
unfolding invocation_of
returns-then-eq-4-clause-value c =
    let not_boxes : bytes_eq c.args.name.now (codes "boxes") ≡ false = search rules in
    let not_samples : bytes_eq c.args.name.now (codes "samples") ≡ false = search rules in
    let not_fragments : bytes_eq c.args.name.now (codes "fragments") ≡ false = search rules in
    let is_check : bytes_eq c.args.name.now (codes "check") ≡ true = search rules in
    rw (not_boxes, not_samples, not_fragments, is_check, ← c.in_ok-settings_from-4.ensures.value) refl

pub returns-in_err-settings-clause-value : goal.returns-in_err-settings-clause-value
unfolding invocation_of split_of
returns-in_err-settings-clause-value c =
    let not_boxes : bytes_eq c.args.name.now (codes "boxes") ≡ false = search rules in
    let not_samples : bytes_eq c.args.name.now (codes "samples") ≡ false = search rules in
    let not_fragments : bytes_eq c.args.name.now (codes "fragments") ≡ false = search rules in
    let not_check : bytes_eq c.args.name.now (codes "check") ≡ false = search rules in
    let is_split : bytes_eq c.args.name.now (codes "split") ≡ true = search rules in
    rw (not_boxes, not_samples, not_fragments, not_check, is_split, ← c.in_err-settings.ensures.value) (search rules)

pub returns-in_err-options-clause-value : goal.returns-in_err-options-clause-value
unfolding invocation_of split_of
returns-in_err-options-clause-value c =
    let not_boxes : bytes_eq c.args.name.now (codes "boxes") ≡ false = search rules in
    let not_samples : bytes_eq c.args.name.now (codes "samples") ≡ false = search rules in
    let not_fragments : bytes_eq c.args.name.now (codes "fragments") ≡ false = search rules in
    let not_check : bytes_eq c.args.name.now (codes "check") ≡ false = search rules in
    let is_split : bytes_eq c.args.name.now (codes "split") ≡ true = search rules in
    rw (not_boxes, not_samples, not_fragments, not_check, is_split, ← c.in_ok-settings.ensures.value, ← c.in_err-options.ensures.value) (search rules)

pub returns-then-eq-5-clause-value : goal.returns-then-eq-5-clause-value
unfolding invocation_of split_of
returns-then-eq-5-clause-value c =
    let not_boxes : bytes_eq c.args.name.now (codes "boxes") ≡ false = search rules in
    let not_samples : bytes_eq c.args.name.now (codes "samples") ≡ false = search rules in
    let not_fragments : bytes_eq c.args.name.now (codes "fragments") ≡ false = search rules in
    let not_check : bytes_eq c.args.name.now (codes "check") ≡ false = search rules in
    let is_split : bytes_eq c.args.name.now (codes "split") ≡ true = search rules in
    rw (not_boxes, not_samples, not_fragments, not_check, is_split, ← c.in_ok-settings.ensures.value, ← c.in_ok-options.ensures.value) refl

pub returns-clause-value : goal.returns-clause-value
unfolding invocation_of
returns-clause-value c =
    let not_boxes : bytes_eq c.args.name.now (codes "boxes") ≡ false = search rules in
    let not_samples : bytes_eq c.args.name.now (codes "samples") ≡ false = search rules in
    let not_fragments : bytes_eq c.args.name.now (codes "fragments") ≡ false = search rules in
    let not_check : bytes_eq c.args.name.now (codes "check") ≡ false = search rules in
    let not_split : bytes_eq c.args.name.now (codes "split") ≡ false = search rules in
    rw (not_boxes, not_samples, not_fragments, not_check, not_split) refl
