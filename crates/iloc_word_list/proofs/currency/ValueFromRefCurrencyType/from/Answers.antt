-- The word of a currency is a subtag, and no `true`.
use Rattle.std.proofs.Common.{[], ◌∷◌, ap, ◌∙◌, lit<}
use Rattle.iloc_word_list.specs.Values.{without_true}
use Rattle.iloc_word_list.proofs.CurrencyLemmas.{currency_normal, currency_alone}
use Rattle.iloc_word_list.proofs.currency.ValueFromRefCurrencyType.from.Goals as goal
use Rattle.iloc_spec_grammar.specs.Syntax.{Text}

pub subtag_of-requires : goal.subtag_of-requires
subtag_of-requires c = (lit< tt, currency_normal)

pub returns : goal.returns
returns c = c.from_subtag.ensures ∙ ap (λ (w : Text). without_true (w ∷ [])) c.subtag_of.ensures
    ∙ currency_alone c.args.input.now c.as_str.ensures.normal
