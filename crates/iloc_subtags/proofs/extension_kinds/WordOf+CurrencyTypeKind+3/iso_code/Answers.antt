use Rattle.std.proofs.Common.{◌≡◌, ◌∙◌, ap, arith, rules, true}
use Rattle.std.specs.Cmp.{second_so}
use Rattle.iloc_tinystr.specs.Number.{number}
use Rattle.iloc_tinystr.specs.TinyText.{is_tiny_text}
use Rattle.iloc_spec_grammar.specs.Syntax.{upper}
use Rattle.iloc_subtags.proofs.KindLemmas.{currency_upper}
use Rattle.iloc_subtags.proofs.extension_kinds.WordOf+CurrencyTypeKind+3.iso_code.Goals.{After-of_number}
use Rattle.iloc_subtags.proofs.extension_kinds.WordOf+CurrencyTypeKind+3.iso_code.Goals as goal

pub overflow_sub-number : goal.overflow_sub-number
overflow_sub-number c =
    let raised = currency_upper c.args.self c.to_piece.ensures.normal in
    omega (arith, raised.0, c.number.ensures, ap number c.to_piece.ensures.value)

module _ (c : goal.After-of_number) where
  raised : c.of_number.result ≡ upper c.args.self
  raised =
      let known = currency_upper c.args.self c.to_piece.ensures.normal in
      let same : c.number.result ≡ number c.args.self =
      c.number.ensures ∙ ap number c.to_piece.ensures.value in
      c.of_number.ensures (upper c.args.self) (second_so _ _ known.1) (omega (arith, known.0, same))

  fits : is_tiny_text 3 c.of_number.result ≡ true
  fits = ap (is_tiny_text 3) raised ∙ (currency_upper c.args.self c.to_piece.ensures.normal).1

pub from_piece-requires : goal.from_piece-requires
from_piece-requires c = let tiny = fits c in search rules

pub returns : goal.returns
returns c = c.from_piece.ensures ∙ raised (goal.at.returns c).After-of_number
