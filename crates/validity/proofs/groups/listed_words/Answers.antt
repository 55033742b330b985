use Rattle.std.proofs.Common.{◌≡◌, ℕ, ◌+◌, ◌*◌, true, false, List, Option, sym, refl, subst, arith, rules}
use Rattle.text_code.proofs.Decoding.{begins_some}
use Rattle.text_code.specs.Spellings.{Begins}
use Rattle.validity.specs.Listing.{ListedIn}
use Rattle.validity.specs.Zoning.{word_of, words_of}
use Rattle.validity.proofs.Scanning.{behind, fits, scanned_none, scanned_as, scanned_digit, scanned_third, scanned_blank, none_unfit, none_unspelled, none_unended, listed_all}
use Rattle.validity.proofs.groups.listed_words.Goals as goal
use Rattle.validity.proofs.groups.listed_words.Goals.{in-2-false-Digit, in_default-false-Digit, in_default-true-Blank}

pub loop-rest-init : goal.loop-rest-init
unfolding word_of words_of
loop-rest-init g c = scanned_none (g.C.ReadingCode.spells c.args.code.now) c.args.bytes.now _ refl

pub returns-in_err-decoded : goal.returns-in_err-decoded
returns-in_err-decoded g c =
    let f = g.C.ReadingCode.spells c.args.code.now in
    let P : Option (List ℕ) → Type 0 = ListedIn f c.args.bytes.now in
    subst P (sym c.from_residual.ensures)
    (none_unspelled f c.args.bytes.now c.loop-rest.rest.now c.loop-rest.digits c.loop-rest.value c.loop-rest.gap c.loop-rest.words c.loop-rest.invariant (search rules) c.in_err-decoded.ensures.front)

pub returns-in_default : goal.returns-in_default
returns-in_default g c =
    let u : fits c.loop-rest.gap c.from.result ≡ false = search rules in
    none_unfit (g.C.ReadingCode.spells c.args.code.now) c.args.bytes.now c.loop-rest.rest.now c.loop-rest.digits c.loop-rest.value c.loop-rest.gap c.loop-rest.words c.in_ok-decoded.decoded (g.met.C.ReadingCode.short c.args.code.now) (g.met.C.ReadingCode.apart c.args.code.now) c.loop-rest.invariant c.in_ok-decoded.ensures.front c.from.result c.from.ensures u

pub returns-in_default-2 : goal.returns-in_default-2
returns-in_default-2 g c =
    let u : fits c.loop-rest.gap c.from.result ≡ false = search rules in
    none_unfit (g.C.ReadingCode.spells c.args.code.now) c.args.bytes.now c.loop-rest.rest.now c.loop-rest.digits c.loop-rest.value c.loop-rest.gap c.loop-rest.words c.in_ok-decoded.decoded (g.met.C.ReadingCode.short c.args.code.now) (g.met.C.ReadingCode.apart c.args.code.now) c.loop-rest.invariant c.in_ok-decoded.ensures.front c.from.result c.from.ensures u

pub returns-in_default-3 : goal.returns-in_default-3
returns-in_default-3 g c =
    let u : fits c.loop-rest.gap c.from.result ≡ false = search rules in
    none_unfit (g.C.ReadingCode.spells c.args.code.now) c.args.bytes.now c.loop-rest.rest.now c.loop-rest.digits c.loop-rest.value c.loop-rest.gap c.loop-rest.words c.in_ok-decoded.decoded (g.met.C.ReadingCode.short c.args.code.now) (g.met.C.ReadingCode.apart c.args.code.now) c.loop-rest.invariant c.in_ok-decoded.ensures.front c.from.result c.from.ensures u

pub loop-rest-smaller : goal.loop-rest-smaller
loop-rest-smaller g c =
    let d = c.in_ok-decoded.decoded in
    let b : Begins (g.C.ReadingCode.spells c.args.code.now) d.character d.length c.loop-rest.rest.now = c.in_ok-decoded.ensures.front in
    omega (arith, b.within, begins_some (g.C.ReadingCode.spells c.args.code.now) d.character d.length c.loop-rest.rest.now (g.met.C.ReadingCode.short c.args.code.now) b)

pub loop-rest-preserved : goal.loop-rest-preserved
loop-rest-preserved g c =
    let f = g.C.ReadingCode.spells c.args.code.now in
    let bytes = c.args.bytes.now in
    let d = c.in_ok-decoded.decoded in
    let rest = c.loop-rest.rest.now in
    let n = c.loop-rest.digits in
    let v = c.loop-rest.value in
    let r = c.in_ok-decoded.ensures.front in
    let short = g.met.C.ReadingCode.short c.args.code.now in
    let apart = g.met.C.ReadingCode.apart c.args.code.now in
    elim c.match-digits.branch [
      | in-2-false-Digit w ↦
          scanned_as f bytes (behind rest d) n v c.match-digits.digits c.match-digits.value true c.match-digits.gap w.mark.new.words c.match-digits.words w.digits-is w.value-is w.gap-is w.words-is
          (scanned_third f bytes rest n v w.in-2-false-Digit.digit c.loop-rest.gap c.loop-rest.words w.mark.new.words d short apart c.loop-rest.invariant r w.in-2-false-Digit.is-1 w.in-2-false-Digit.is-0 w.in-2-false-Digit.ensures w.mark.ensures)
      | in_default-false-Digit w ↦
          scanned_as f bytes (behind rest d) (n + 1) (v * 10 + w.in_default-false-Digit.digit) c.match-digits.digits c.match-digits.value c.loop-rest.gap c.match-digits.gap c.loop-rest.words c.match-digits.words w.digits-is w.value-is w.gap-is w.words-is
          (scanned_digit f bytes rest n v w.in_default-false-Digit.digit c.loop-rest.gap c.loop-rest.words d short apart c.loop-rest.invariant r w.in_default-false-Digit.is-1 (omega (arith, c.loop-rest.invariant.few)) w.in_default-false-Digit.ensures)
      | in_default-true-Blank w ↦
          scanned_as f bytes (behind rest d) 0 0 c.match-digits.digits c.match-digits.value false c.match-digits.gap c.loop-rest.words c.match-digits.words w.digits-is w.value-is w.gap-is w.words-is
          (scanned_blank f bytes rest n v c.loop-rest.gap c.loop-rest.words d short apart c.loop-rest.invariant r (search rules) w.in_default-true-Blank.ensures)
    ]

pub returns-then-gap-2 : goal.returns-then-gap-2
returns-then-gap-2 g c =
    listed_all (g.C.ReadingCode.spells c.args.code.now) c.args.bytes.now c.loop-rest.rest.now c.loop-rest.digits c.loop-rest.value c.loop-rest.gap c.loop-rest.words c.loop-rest.invariant (search rules) c.if-gap-2.true

pub returns-else-gap-2 : goal.returns-else-gap-2
returns-else-gap-2 g c =
    none_unended (g.C.ReadingCode.spells c.args.code.now) c.args.bytes.now c.loop-rest.rest.now c.loop-rest.digits c.loop-rest.value c.loop-rest.gap c.loop-rest.words (g.met.C.ReadingCode.short c.args.code.now) (g.met.C.ReadingCode.apart c.args.code.now) c.loop-rest.invariant (search rules) c.if-gap-2.false
