use Rattle.std.proofs.Common.{◌≡◌, ℕ, ◌^◌, ◌<◌, length, get_or, Err, sym, ap, ◌∙◌, subst, arith, rules}
use Rattle.std.proofs.lemmas.List.{at_drop_all}
use Rattle.std.proofs.lemmas.Result.{err_from_is_err_and, IfOk-from_err}
use Rattle.octets.specs.Digits.{numeral_from, numeral}
use Rattle.octets.proofs.Numerals.{fits_more, read_ok, numeral_short, numeral_ends}
use Rattle.octets.proofs.digits.read_number.Goals as goal

pub returns-then-item-gt9 : goal.returns-then-item-gt9
unfolding numeral
returns-then-item-gt9 c = search rules

pub overflow_mul-value : goal.overflow_mul-value
overflow_mul-value c =
    let m = fits_more c.loop-byte.value c.loop-byte.byte-index (length c.args.item.now) c.loop-byte.invariant.1 c.loop-byte-test.true c.if-item-gt9.false in omega arith

pub overflow_add-value : goal.overflow_add-value
overflow_add-value c =
    let m = fits_more c.loop-byte.value c.loop-byte.byte-index (length c.args.item.now) c.loop-byte.invariant.1 c.loop-byte-test.true c.if-item-gt9.false in
    let d = read_ok c.args.fault (get_or c.args.item.now c.loop-byte.byte-index 0) c.in_ok-value.field-0 c.in_ok-value.ensures in omega (arith, d.2)

pub returns-in_err-value : goal.returns-in_err-value
returns-in_err-value c =
    let p = err_from_is_err_and c.from_residual.result c.from_residual.ensures.1 in
    let e = numeral_ends c.args.fault c.in_err-value.field-0.0 c.loop-byte.value c.args.item.now c.loop-byte.byte-index c.loop-byte-test.true c.in_err-value.ensures in
    record {
      value = p.1 ∙ ap Err (p.2 ∙ e.1) ∙ sym e.0 ∙ c.loop-byte.invariant.0 ∙ sym (numeral_short c.args.fault c.args.item.now c.if-item-gt9.false);
      bound = IfOk-from_err c.from_residual.result (λ n. n < 10 ^ length c.args.item.now) c.from_residual.ensures.0;
    }

pub returns : goal.returns
returns c =
    let all : c.loop-byte.byte-index ≡ length c.args.item.now = omega arith in
    let P : ℕ → Type 0 = λ k. c.loop-byte.value < 10 ^ k in
    record {
      value = sym (at_drop_all (numeral_from c.args.fault c.loop-byte.value) c.args.item.now c.loop-byte.byte-index c.loop-byte-test.false) ∙ c.loop-byte.invariant.0 ∙ sym (numeral_short c.args.fault c.args.item.now c.if-item-gt9.false);
      bound = subst P all c.loop-byte.invariant.1;
    }
