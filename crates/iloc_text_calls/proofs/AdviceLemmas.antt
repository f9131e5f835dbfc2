-- What is told of what may stand at a place, and of hints.
use Rattle.std.proofs.Common.{◌≡◌, ◌↔◌, ◌<◌, ◌^◌, ℕ, Option, Some, refl, sym, ap, ◌∙◌, true, length}
use Rattle.std.specs.Prelude.{◌==◌, if◌then◌else◌}
use Rattle.std.specs.Option.{unwrap_or}
use Rattle.iloc_spec_grammar.specs.Syntax.{Text}
use Rattle.iloc_normalize.specs.declared.Mode.{Mode}
use Rattle.iloc_expected.specs.Kinds.{has}
use Rattle.iloc_expected.specs.Standing.{AreExpected, MayStand, pieces_before}
use Rattle.iloc_expected.specs.declared.kinds.Expected.{Expected}
use Rattle.iloc_expected.specs.declared.kinds.PieceKind.{PieceKind}
use Rattle.iloc_expected.proofs.AtFault.{at_place}
use Rattle.iloc_hints.specs.Hints.{HasHint}
use Rattle.iloc_hints.specs.declared.hints.Hint.{Hint}
use Rattle.iloc_hints.specs.declared.hints.Hint.TheVariants.{Mark, Blanks, System, Codeset, Underscores}
use Rattle.iloc_text_calls.specs.Advice.{AreKindsAt, IsHintNumber, hint_number}

-- the kinds that are expected at a place are told; at the place of a fault one of them may stand
pub kinds_told : (mode : Mode) (t : Text) (place : ℕ) (set : Expected)
    → ((kind : PieceKind) → MayStand mode (pieces_before t place) kind → has set kind ≡ true)
    → (length t < 2 ^ 40 → AreExpected mode (pieces_before t place) set)
    → AreKindsAt mode t place set
kinds_told mode t place set all exact = record {
  all = all;
  exact = exact;
  some = λ end fault.
      let stands = at_place mode t place end fault in (stands.0, all stands.0 stands.1);
}

-- a hint is the only one of its number
by_number : ℕ → Hint
by_number n = if n == 1 then Mark else if n == 2 then Blanks else
    if n == 3 then System else if n == 4 then Codeset else Underscores

back : (hint : Hint) → by_number (hint_number hint) ≡ hint
unfolding by_number
back Mark = refl
back Blanks = refl
back System = refl
back Codeset = refl
back Underscores = refl

only : (a b : Hint) → hint_number a ≡ hint_number b → a ≡ b
only a b e = sym (back a) ∙ ap by_number e ∙ back b

-- the number of the hint that was found is told
pub hint_told : (mode : Mode) (t : Text) (found : Option Hint) (hint : Hint)
    → ((other : Hint) → (found ≡ Some other) ↔ HasHint mode t other) → found ≡ Some hint
    → IsHintNumber mode t (hint_number hint)
hint_told mode t found hint finds is = record {
  some = λ other. (
    λ e. (finds other).0 (is ∙ ap Some (only hint other e)),
    λ has. ap (λ o. hint_number (unwrap_or o other)) (sym is ∙ (finds other).1 has),
  );
  none = λ no. absurd (no hint ((finds hint).0 is));
}
