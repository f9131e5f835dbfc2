-- The outline gives the normal text; a text that begins with no language is refused.
use Rattle.std.proofs.Common.{take}
use Rattle.iloc_normalize.specs.declared.Mode.TheVariants.{Langid}
use Rattle.locale_web.proofs.ReadLemmas.{identifier_outlined}
use Rattle.locale_web.proofs.reading.read_identifier.Goals as goal
use Rattle.iloc_normalize.proofs.FrontAnswers.{unbegun_refused}

pub returns-then-not-begins_with_language : goal.returns-then-not-begins_with_language
returns-then-not-begins_with_language c =
    unbegun_refused Langid (take c.args.len c.args.window.now) c.begins_with_language.result
    c.begins_with_language.ensures
    c.if-not-begins_with_language.true

pub returns-in-Normal : goal.returns-in-Normal
returns-in-Normal c =
    let h = c.in-Normal.ensures.outlined in
    identifier_outlined (take c.args.len c.args.window.now) c.outline_identifier.new.spans c.in-Normal.outline
    h.0 h.1 h.2
