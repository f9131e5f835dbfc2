use Rattle.std.proofs.Common.{◌∷◌, ap, sym, ◌∙◌}
use Rattle.iloc_spec_grammar.specs.Syntax.{Language, languages}
use Rattle.iloc_subtags.specs.Left.{left}
use Rattle.iloc_subtags.proofs.TakingLemmas.{took}
use Rattle.iloc_langid.proofs.FrontLemmas.{none_first, plain_front}
use Rattle.iloc_langid.proofs.plain.take_plain.Goals as goal

pub returns-in_err-language : goal.returns-in_err-language
returns-in_err-language c =
    rw c.from_residual.ensures (none_first (left c.args.iter.now) c.in_err-language.ensures.word)

pub returns : goal.returns
returns c =
    let (p, h, same, cut) = took (Language languages) (left c.args.iter.now) c.in_ok-language.language
    c.in_ok-language.ensures.word in
    plain_front (left c.args.iter.now) p (left c.take_word.new.iter) (left c.take_word-script.new.iter)
    (left c.take_word-region.new.iter) _
    (cut ∙ ap (λ ps. p ∷ ps) (sym c.in_ok-language.ensures.rest)) h same c.take_word-script.ensures.word
    c.take_word-script.ensures.rest c.take_word-region.ensures.word c.take_word-region.ensures.rest
