use Rattle.std.proofs.Common.{◌≡◌, ◌≢◌, ◌∙◌, Bool, None, Option, Some, ap, arith, false, refl, rules, sym, true}
use denote.Enum.Bare.{same_false, same_true}
use Rattle.iloc_spans.specs.contracts.span.Role.{the_type}
use Rattle.iloc_spans.specs.declared.span.Role.TheVariants.{Field}
use Rattle.iloc_outline.specs.Reading.{unless_end}
use Rattle.iloc_spans.specs.Spans.{held_spans}
use Rattle.iloc_spans.proofs.HeldLemmas.{length-held}
use Rattle.iloc_outline.specs.declared.fields.FieldValue.{FieldValue}
use Rattle.iloc_pieces.specs.declared.place.Cursor.{Cursor}
use Rattle.iloc_outline.proofs.FieldLemmas.{ends_in_key, field_less, key_kind_fits, takes_end, takes_few, takes_full, takes_more, takes_none, takes_past}
use Rattle.iloc_outline.proofs.GatherLemmas.{gathers_from}
use Rattle.iloc_outline.proofs.RefusalLemmas.{refused_before}
use Rattle.iloc_outline.proofs.RoleLemmas.{short_key_kind, tried}
use Rattle.iloc_outline.proofs.WordLemmas.{length-pieces_of}
use Rattle.iloc_outline.proofs.fields.read_fields.Goals as goal
use Rattle.iloc_outline.proofs.fields.read_fields.Goals.{else-eq-via-then-eq+else-value-eq0, else-eq-via-else-eq}

abbrev behind : Cursor → Bool → Option Cursor
behind m b = unless_end b m

goes_on : (m : Cursor) (v : FieldValue) → v.is_end ≡ false → unless_end v.is_end m ≡ Some m
goes_on m v = ap (behind m)

ends : (m : Cursor) (v : FieldValue) → v.is_end ≡ true → unless_end v.is_end m ≡ None
ends m v = ap (behind m)

pub keys-init : goal.keys-init
keys-init g c = search takes_none

pub read_value-value-requires-clause-later : goal.read_value-value-requires-clause-later
read_value-value-requires-clause-later g c = c.keys.invariant.past.later

pub read_value-value-requires-clause-short : goal.read_value-value-requires-clause-short
read_value-value-requires-clause-short g c = grind (arith, short_key_kind)

pub returns-then-value-eq0-clause-read : goal.returns-then-value-eq0-clause-read
returns-then-value-eq0-clause-read g c =
    let v = c.read_value-value in
    let field = same_true the_type (search rules) _ _ (sym c.if-eq.ensures) in (
      field,
      ends_in_key c.args.role c.args.cursor.now c.keys.cursor c.args.spans.now _ _ _ _ c.keys.invariant
          v.new.cursor
          v.result
          v.ensures
          field (sym c.is_key_of.ensures ∙ c.keys-test.true) c.if-value-eq0.true,
    )

pub word_number-word-requires : goal.word_number-word-requires
word_number-word-requires g c = grind (arith, key_kind_fits)

pub put_from-requires : goal.put_from-requires
put_from-requires g c =
    omega (
      arith,
      gathers_from _ _ _ _ _ _ _ c.keys.invariant.gathers,
      length-held c.args.spans.now,
      length-held c.keys.spans,
    )

pub returns-in-Full-clause-read : goal.returns-in-Full-clause-read
returns-in-Full-clause-read g c =
    takes_full _ c.args.cursor.now c.keys.cursor c.args.spans.now _ _ _ _ c.keys.invariant
    (c.put_from.ensures.full c.in-Full.is)

pub returns-in-Full-clause-refused : goal.returns-in-Full-clause-refused
returns-in-Full-clause-refused g c = λ _.
    refused_before _ c.args.spans.now c.keys.spans _ _
    (omega (
      arith,
      takes_few _ c.args.cursor.now c.keys.cursor c.args.spans.now _ _ _ _ c.keys.invariant,
      length-pieces_of c.keys.cursor,
    ))
    (c.put_from.ensures.refused c.in-Full.is (tried c.args.role c.requires.role))

pub keys-preserved : goal.keys-preserved
keys-preserved g c =
    let v = c.read_value-value in
    let key = sym c.is_key_of.ensures ∙ c.keys-test.true in
    let some : c.args.role ≡ Field → c.read_value-value.result.count ≢ 0 = λ t. elim c.else-eq.branch [
      | else-eq-via-then-eq+else-value-eq0 b ↦ b.if-value-eq0.false
      | else-eq-via-else-eq b ↦ absurd (same_false the_type _ _ (sym b.if-eq.ensures) t)
    ] in
    takes_more _ c.args.cursor.now c.keys.cursor c.args.spans.now _ _ _ _ c.keys.invariant v.new.cursor
    v.result
    v.ensures key some
    (held_spans c.put_from.new.spans) _ _ _ _ c.word_number-word.ensures c.is_edited.ensures c.put_from.result
    c.put_from.ensures.put c.in_default.not-Full v.new.cursor (goes_on v.new.cursor v.result c.if-value.false)

pub returns-then-value-clause-read : goal.returns-then-value-clause-read
returns-then-value-clause-read g c =
    let v = c.read_value-value in
    let key = sym c.is_key_of.ensures ∙ c.keys-test.true in
    let some : c.args.role ≡ Field → c.read_value-value.result.count ≢ 0 = λ t. elim c.else-eq.branch [
      | else-eq-via-then-eq+else-value-eq0 b ↦ b.if-value-eq0.false
      | else-eq-via-else-eq b ↦ absurd (same_false the_type _ _ (sym b.if-eq.ensures) t)
    ] in
    takes_end _ c.args.cursor.now c.keys.cursor c.args.spans.now _ _ _ _ c.keys.invariant v.new.cursor
    v.result
    v.ensures key some
    (held_spans c.put_from.new.spans) _ _ _ _ c.word_number-word.ensures c.is_edited.ensures c.put_from.result
    c.put_from.ensures.put c.in_default.not-Full c.put_from.new.spans refl
    (ends v.new.cursor v.result c.if-value.true)

pub keys-smaller : goal.keys-smaller
keys-smaller g c = search (field_less, goes_on)

pub returns-clause-read : goal.returns-clause-read
returns-clause-read g c =
    let w = c.keys.invariant in (
      w.fields,
      w.past,
      sym c.is_key_of.ensures ∙ c.keys-test.false,
      w.ends,
      takes_past c.args.role c.args.cursor.now c.keys.cursor c.args.spans.now _ _ _ _ w c.keys.spans refl,
    )
