-- A language alone: its text is the language, and no other extension is there.
use Rattle.std.proofs.Common.{◌≡◌, ◌↔◌, List, [], ◌∷◌, ◌++◌, length, map, Option, Some, None, option_to_list, refl, sym, ap, ◌∙◌, subst, arith, length-append, append-nil}
use Rattle.iloc_spec_grammar.specs.Syntax.{Block, Fields, Identifier, Transform, Unicode, Text, code_x, join, dashes, lower, unicode_pieces, optional_pieces, fields_pieces}
use Rattle.iloc_spec_grammar.specs.Meaning.{Extensions, no_extensions}
use Rattle.iloc_spec_grammar.specs.Values.{text, extensions_spelling, printed_pieces, transform_block, spelled_fields, identifier_text}
use Rattle.iloc_spec_grammar.proofs.PartTexts.{join-dashes}
use Rattle.iloc_spec_parts.proofs.SmallShapes.{none_mapped, none_of_both}
use Rattle.iloc_langid.specs.Reads as langid
use Rattle.iloc_extensions.specs.ExtensionsValue as extensions
use Rattle.iloc_locale.specs.LocaleReading.{IsLanguageAlone}
use Rattle.iloc_locale.specs.declared.locale.Locale.{Locale}
use Rattle.iloc_locale.proofs.AloneLemmas.{text_alone}

-- the pieces of the identifier after its language
abbrev words_after : Identifier → List Text
words_after i = option_to_list i.script ++ (option_to_list i.region ++ i.variants)

-- a text that is its first piece has no other

no_more : (w : Text) (ps : List Text) → join (w ∷ ps) ≡ w → ps ≡ []
no_more w [] e = refl
no_more w (p ∷ ps) e =
    let sizes = ap length (sym (join-dashes w (p ∷ ps)) ∙ e) in
    absurd (omega (arith, sizes, length-append w (dashes (p ∷ ps))))

absent : {X : Type 0} (o : Option X) → option_to_list o ≡ [] → o ≡ None
absent None e = refl
absent (Some x) e = absurd (cc)

-- Parts that print nothing are empty.

no_block : (b : Block) → printed_pieces b ≡ [] → b.1 ≡ []
no_block (c, []) e = refl
no_block (c, p ∷ ps) e = absurd (cc)

no_fields : (fs : Fields) → fields_pieces fs ≡ [] → fs ≡ []
no_fields [] e = refl
no_fields (f ∷ fs) e = absurd (cc)

no_identifier : (o : Option Identifier) → optional_pieces o ≡ [] → o ≡ None
no_identifier None e = refl
no_identifier (Some i) e = absurd (cc)

no_transform_there : (m : Transform) → (transform_block m).1 ≡ [] → (m.id ≡ None) × (m.fields ≡ [])
no_transform_there m e =
    let both = none_of_both (map lower (optional_pieces m.id)) _ e in (
      no_identifier m.id (none_mapped lower _ both.0),
      none_mapped _ m.fields (no_fields (spelled_fields m.fields) both.1),
    )

-- extensions without others that print nothing are empty
none_spelled : (u : Unicode) (m : Transform) (ws : List Text)
    → extensions_spelling (record { unicode = u; transform = m; private = ws; others = [] }) ≡ []
    → ◌≡◌ {A = Extensions}
    (record { unicode = u; transform = m; private = ws; others = [] }) no_extensions
unfolding extensions_spelling
none_spelled u m ws e =
    let transform = none_of_both (printed_pieces (transform_block m)) _ e in
    let unicode = none_of_both (printed_pieces (_, unicode_pieces u)) _ transform.1 in
    let private = none_of_both (printed_pieces (code_x, ws)) [] unicode.1 in
    let parts = no_transform_there m (no_block _ transform.0) in
    let words = none_of_both u.attributes _ (no_block _ unicode.0) in
    let keywords = no_fields u.keywords words.1 in
    let here = no_block _ private.0 in
    λ i. record {
      unicode = record { attributes = words.0 i; keywords = keywords i };
      transform = record { id = parts.0 i; fields = parts.1 i };
      private = here i;
      others = [];
    }

nothing_spelled : (e : Extensions) → extensions_spelling e ≡ [] → e.others ≡ [] → e ≡ no_extensions
nothing_spelled e s o =
    let same : ◌≡◌ {A = Extensions} e (record e { others = [] }) = ap (λ os. record e { others = os }) o in
    same ∙ none_spelled e.unicode e.transform e.private (subst (λ x. extensions_spelling x ≡ []) same s)

-- the text of a language and nothing else
alone_text : (i : Identifier) → i.script ≡ None → i.region ≡ None → i.variants ≡ []
    → identifier_text i ≡ i.language
unfolding identifier_text
alone_text i s r v =
    let none : words_after i ≡ [] = rw (s, r, v) refl in
    ap (λ (ps : List Text). join (i.language ∷ ps)) none ∙ join-dashes i.language []
    ∙ append-nil i.language

-- an identifier and extensions of which nothing but the language is printed, and no other extension is there
module _ (i : Identifier) (e : Extensions) where
  abbrev Prints : Type 0
  Prints = (text (record { id = i; extensions = e }) ≡ i.language) × (e.others ≡ [])

  abbrev IsAlone : Type 0
  IsAlone = ((i.script ≡ None) × (i.region ≡ None) × (i.variants ≡ [])) × (e ≡ no_extensions)

  alone_from_text : Prints → IsAlone
  alone_from_text (t, o) =
      let both = none_of_both (words_after i) (extensions_spelling e) (no_more i.language _ t) in
      let script = none_of_both (option_to_list i.script) _ both.0 in
      let region = none_of_both (option_to_list i.region) i.variants script.1 in (
        (absent i.script script.0, absent i.region region.0, region.1),
        nothing_spelled e both.1 o,
      )

  text_from_alone : IsAlone → Prints
  text_from_alone ((s, r, v), n) =
      (text_alone i e n ∙ alone_text i s r v, ap (λ (x : Extensions). x.others) n)

-- a locale is a language alone exactly if all else of it is empty
pub language_alone : (l : Locale) → IsLanguageAlone l
    ↔ langid.IsIdentifierLanguageAlone l.id × (extensions.value_of l.extensions ≡ no_extensions)
language_alone l = (
  alone_from_text (langid.value_of l.id) (extensions.value_of l.extensions),
  text_from_alone (langid.value_of l.id) (extensions.value_of l.extensions),
)
