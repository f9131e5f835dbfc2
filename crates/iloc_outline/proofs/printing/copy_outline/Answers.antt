use Rattle.std.proofs.Common.{◌++◌, length, sym, ap, ◌∙◌, arith}
use Rattle.std.proofs.lemmas.List.{length-take-le}
use Rattle.iloc_outline.specs.Outlines.{parts_text}
use Rattle.iloc_spans.specs.Spans.{held_spans}
use Rattle.iloc_outline.proofs.PrintingLemmas.{gives_length, gives_text, spell_wider}
use Rattle.iloc_outline.proofs.printing.copy_outline.Goals as goal

pub copy_spans-requires : goal.copy_spans-requires
copy_spans-requires c =
    let w = c.args.window.now in
    let g = c.requires.gives in
    record {
      parts = g.gives.parts;
      spell = spell_wider w c.args.len c.requires.inside (held_spans c.args.spans.now) g.gives.parts
          g.gives.spell;
      fits = omega (
        arith,
        c.requires.room,
        g.few,
        length-take-le c.args.len w c.requires.inside,
        c.copy_front.auto.to,
        gives_length w c.args.len c.requires.inside c.args.outline.now c.args.spans.now g.normal g.gives,
      );
    }

pub returns-clause-text : goal.returns-clause-text
returns-clause-text c = λ normal g.
    let w = c.args.window.now in
    let o = c.args.outline.now in
    c.copy_spans.ensures.copied g.parts
    (spell_wider w c.args.len c.requires.inside (held_spans c.args.spans.now) g.parts g.spell)
    ∙ ap (λ t. t ++ parts_text g.parts) c.copy_front.ensures
    ∙ sym (gives_text w c.args.len c.requires.inside o c.args.spans.now normal g)

pub returns-clause-within : goal.returns-clause-within
returns-clause-within c =
    let g = c.requires.gives in
    omega (
      arith,
      ap length (returns-clause-text c g.normal g.gives),
      length-take-le c.copy_spans.result c.copy_spans.new.to
          (omega (arith, c.copy_spans.ensures.within, c.copy_spans.auto.to)),
      g.few,
      length-take-le c.args.len c.args.window.now c.requires.inside,
    )
