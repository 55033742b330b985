use Rattle.std.proofs.Common.{get_or, length, sym, refl, ap, ◌∙◌, arith, rules}
use Rattle.lists.proofs.Laws.{put_mid-laid}
use Rattle.std.specs.Option.{option_map}
use Rattle.text_code.specs.Writing.{spelling_bytes}
use Rattle.text_code.proofs.Decoding.{spelt}
use Rattle.text_code.proofs.Laying.{lay_done, lay_measured, lay_more, lay_unwraps, lay_within, unlaid_none}
use Rattle.text_code.proofs.writing.lay_characters.Goals as goal

pub returns-in_err-length : goal.returns-in_err-length
returns-in_err-length g c =
    rw c.from_residual.ensures (record { laid = unlaid_none (g.C.ReadingCode.spells c.args.code.now) c.args.characters.now c.args.buffer.now c.args.place c.spelled_length.result c.spelled_length.ensures.only c.in_err-length.ensures.value })

pub loop-character-init : goal.loop-character-init
loop-character-init g c =
    lay_measured (g.C.ReadingCode.spells c.args.code.now) c.args.characters.now c.args.buffer.now c.args.place c.in_ok-length.length c.spelled_length.result c.spelled_length.ensures.answer c.in_ok-length.ensures.value (search rules)

pub unwrap-spelling-requires : goal.unwrap-spelling-requires
unwrap-spelling-requires g c =
    lay_unwraps (g.C.ReadingCode.spells c.args.code.now) c.args.characters.now c.args.buffer.now c.loop-character.buffer c.args.place c.loop-character.character-index c.loop-character.at c.spell.result c.loop-character-test.true c.loop-character.invariant c.spell.ensures.spelling

pub lay_within-at-requires : goal.lay_within-at-requires
lay_within-at-requires g c =
    let e = spelt (g.C.ReadingCode.spells c.args.code.now (get_or c.args.characters.now c.loop-character.character-index 0)) c.as_bytes.result.now (spelling_bytes c.unwrap-spelling.result) (sym (ap (option_map spelling_bytes) c.unwrap-spelling.ensures) ∙ c.spell.ensures.spelling) c.as_bytes.ensures.value in
    let h = lay_within (g.C.ReadingCode.spells c.args.code.now) c.args.characters.now c.args.buffer.now c.loop-character.buffer c.as_bytes.result.now c.args.place c.loop-character.character-index c.loop-character.at c.loop-character-test.true c.loop-character.invariant e in
    search rules

pub loop-character-preserved : goal.loop-character-preserved
loop-character-preserved g c =
    let f = g.C.ReadingCode.spells c.args.code.now in
    let now = c.loop-character.buffer in
    let at = c.loop-character.at in
    let bytes = c.as_bytes.result.now in
    let laid = c.lay_within-at in
    let e = spelt (f (get_or c.args.characters.now c.loop-character.character-index 0)) bytes (spelling_bytes c.unwrap-spelling.result) (sym (ap (option_map spelling_bytes) c.unwrap-spelling.ensures) ∙ c.spell.ensures.spelling) c.as_bytes.ensures.value in
    let room = lay_within f c.args.characters.now c.args.buffer.now now bytes c.args.place c.loop-character.character-index at c.loop-character-test.true c.loop-character.invariant e in
    lay_more f c.args.characters.now c.args.buffer.now now bytes laid.new.buffer c.args.place c.loop-character.character-index at laid.result c.loop-character-test.true c.loop-character.auto.buffer c.loop-character.invariant e
    (λ _. laid.ensures.holds ∙ put_mid-laid at (length bytes) now bytes bytes refl refl)
    (omega (arith, laid.ensures.end, room, c.loop-character.auto.buffer))

pub returns : goal.returns
returns g c =
    record { laid = lay_done (g.C.ReadingCode.spells c.args.code.now) c.args.characters.now c.args.buffer.now c.loop-character.buffer c.args.place c.loop-character.character-index c.loop-character.at c.loop-character-test.false c.loop-character.invariant }
