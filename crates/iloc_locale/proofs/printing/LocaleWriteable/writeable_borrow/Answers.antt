use Rattle.std.proofs.Common.{◌≡◌, IfSome, sym, ◌∙◌, subst, true≢false}
use Rattle.iloc_langid.specs.Reads as langid
use Rattle.iloc_extensions.specs.ExtensionsValue as extensions
use Rattle.iloc_locale.proofs.AloneLemmas.{text_alone}
use Rattle.iloc_locale.proofs.LanguageAlone.{language_alone}
use Rattle.iloc_locale.proofs.printing.LocaleWriteable.writeable_borrow.Goals as goal
use Rattle.iloc_spec_grammar.specs.Syntax.{Text}

pub returns-then-not-is_empty-clause-lends : goal.returns-then-not-is_empty-clause-lends
returns-then-not-is_empty-clause-lends c =
    let parts = language_alone c.args.self.now in (
      λ s. absurd (true≢false (sym s)),
      λ l. absurd (true≢false (sym (c.is_empty.ensures.1 (parts.0 l).1) ∙ c.if-not-is_empty.true)),
    )

pub returns-clause-lends : goal.returns-clause-lends
returns-clause-lends c =
    let parts = language_alone c.args.self.now in (
      λ s. parts.1
          (c.writeable_borrow.ensures.lends.0 s, c.is_empty.ensures.0 c.if-not-is_empty.false),
      λ l. c.writeable_borrow.ensures.lends.1 (parts.0 l).0,
    )

pub returns-clause-text : goal.returns-clause-text
returns-clause-text c = subst (λ (x : Text). IfSome c.writeable_borrow.result (λ t. t.now ≡ x))
    (sym (text_alone (langid.value_of c.args.self.now.id) (extensions.value_of c.args.self.now.extensions)
    (c.is_empty.ensures.0 c.if-not-is_empty.false))) c.writeable_borrow.ensures.text
