use Rattle.std.proofs.Common.{◌≡◌, length, arith, ◌∙◌, sym, ap, subst, refl, true, false, true≢false}
use Rattle.std.specs.Ordering.{is_eq, is_ne}
use Rattle.std.specs.declared.cmp.Ordering.{Ordering}
use Rattle.std.specs.declared.cmp.Ordering.TheVariants.{Less, Equal, Greater}
use Rattle.std.specs.Cmp.Lexicographic.{same_text}
use Rattle.iloc_spec_grammar.specs.Syntax.{Text, languages}
use Rattle.iloc_pieces.proofs.WindowLemmas.{text_of_cut}
use Rattle.iloc_normalize.specs.Modes.{IsNormalText}
use Rattle.iloc_normalize.specs.Answered.{HasRefusal}
use Rattle.iloc_normalize.specs.declared.Mode.TheVariants as modes
use Rattle.iloc_locale.specs.LocaleReading.{value_of}
use Rattle.iloc_locale.proofs.NormalLemmas.{own_text_means, other_text_differs, normal_text_means, faulty_differs}
use Rattle.iloc_locale.proofs.locale.Locale.compare_outlined.Goals as goal

apart : (o : Ordering) → is_ne o ≡ true → false ≡ is_eq o
apart Less h = refl
apart Equal h = cc
apart Greater h = refl

alike : (o : Ordering) → is_ne o ≡ false → true ≡ is_eq o
alike Less h = cc
alike Equal h = refl
alike Greater h = cc

pub returns-then-is_well_formed : goal.returns-then-is_well_formed
returns-then-is_well_formed c =
    let t = c.args.text.now in
    let M = value_of c.args.self.now in
    let well = c.is_well_formed.ensures.back c.if-is_well_formed.true in
    let tied = c.if-is_eq.ensures ∙ ap is_eq c.strict_cmp.ensures in
    (λ s. own_text_means t M well tied, λ m. refl)

pub returns-in-Normal : goal.returns-in-Normal
returns-in-Normal c =
    let t = c.args.text.now in
    let M = value_of c.args.self.now in
    let untied = c.if-is_eq.ensures ∙ ap is_eq c.strict_cmp.ensures in
    let normal = c.in-Normal.normal.now in
    let told = subst (λ (u : Text). IsNormalText languages modes.Locale u normal)
    (text_of_cut c.in_window.result (length t) (omega arith) ∙ c.in_window.ensures)
    c.in-Normal.ensures.answered in
    let own = subst (λ (u : Text). IsNormalText languages modes.Locale t u)
    (same_text _ _ c.if-eq.ensures) told in
    (λ s. absurd (true≢false (sym s)), λ m. absurd (other_text_differs t M t untied own m))

pub returns-then-is_ne : goal.returns-then-is_ne
returns-then-is_ne c =
    let t = c.args.text.now in
    let M = value_of c.args.self.now in
    let normal = c.in-Normal.normal.now in
    let told = subst (λ (u : Text). IsNormalText languages modes.Locale u normal)
    (text_of_cut c.in_window.result (length t) (omega arith) ∙ c.in_window.ensures)
    c.in-Normal.ensures.answered in
    let untied = apart c.strict_cmp-in-Normal-2.result (sym c.if-is_ne.ensures)
    ∙ ap is_eq c.strict_cmp-in-Normal-2.ensures in
    (λ s. absurd (true≢false (sym s)), λ m. absurd (other_text_differs t M normal untied told m))

pub returns-then-is_well_formed-2 : goal.returns-then-is_well_formed-2
returns-then-is_well_formed-2 c =
    let t = c.args.text.now in
    let M = value_of c.args.self.now in
    let well = c.is_well_formed-in-Normal-2.ensures.back c.if-is_well_formed-2.true in
    let normal = c.in-Normal.normal.now in
    let told = subst (λ (u : Text). IsNormalText languages modes.Locale u normal)
    (text_of_cut c.in_window.result (length t) (omega arith) ∙ c.in_window.ensures)
    c.in-Normal.ensures.answered in
    let tied = alike c.strict_cmp-in-Normal-2.result (sym c.if-is_ne.ensures)
    ∙ ap is_eq c.strict_cmp-in-Normal-2.ensures in
    (λ s. normal_text_means t M well normal tied told, λ m. refl)

pub returns-in-Refused : goal.returns-in-Refused
returns-in-Refused c =
    let t = c.args.text.now in
    let M = value_of c.args.self.now in
    let e = c.in-Refused.field-0 in
    let faulty = subst (λ (u : Text). HasRefusal modes.Locale u e)
    (text_of_cut c.in_window.result (length t) (omega arith) ∙ c.in_window.ensures)
    c.in-Refused.ensures.answered in
    (λ s. absurd (true≢false (sym s)), λ m. absurd (faulty_differs t M e faulty m))
