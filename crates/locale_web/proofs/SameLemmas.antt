-- Two texts have one normal text exactly if they mean the same.
use Rattle.std.proofs.Common.{◌≡◌, ℕ, Bool, IsTrue, ◌↔◌, ◌⊎◌, sym, ap, ◌∙◌, subst}
use Rattle.std.specs.Int.{from_bool}
use Rattle.iloc_spec_grammar.specs.Syntax.{Text, pieces, languages}
use Rattle.iloc_spec_grammar.specs.Meaning as meaning
use Rattle.iloc_spec_grammar.specs.Meaning.{IdentifierMeans, Means}
use Rattle.iloc_spec_grammar.proofs.RawLaws.{languages_table}
use Rattle.iloc_spec_grammar.proofs.SameFaults.{accepted_no_fault}
use Rattle.iloc_spec_grammar.proofs.Corollaries.{same_meaning}
use Rattle.iloc_spec_grammar.proofs.IdentifierLaws as identifiers
use Rattle.iloc_spec_grammar.proofs.IdentifierTexts.{identifier_apart, same_identifier_meaning}
use Rattle.iloc_spec_grammar.proofs.SameMeaning as locales
use Rattle.iloc_spec_parts.specs.DataLocales.{DataMeans, data_text}
use Rattle.iloc_spec_parts.proofs.DataLaws.{one_data, data_apart, read_back}
use Rattle.iloc_subtags.specs.declared.parse_error.ParseError.{ParseError}
use Rattle.iloc_subtags.specs.declared.parse_error.ParseError.TheVariants as refusals
use Rattle.iloc_normalize.specs.Modes.{IsNormalText, IsFaulty}
use Rattle.iloc_normalize.specs.Answered.{HasRefusal}
use Rattle.iloc_normalize.specs.declared.Mode.{Mode}
use Rattle.iloc_normalize.specs.declared.Mode.TheVariants.{Langid, Locale, Data}
use Rattle.iloc_calls.specs.Answers.{MeanSame}
use Rattle.iloc_calls.specs.declared.status.Status.TheVariants.{Done}
use Rattle.locale_web.specs.Answers.{SameIsWritten}
use Rattle.iloc_calls.proofs.AnswerLemmas.{number_of_same}

-- two texts have one normal text exactly if they mean the same
pub same_normal : (mode : Mode) (t u a b : Text) → IsNormalText languages mode t a →
    IsNormalText languages mode u b → (a ≡ b) ↔ MeanSame mode t u
same_normal Langid t u a b (i, m, e) (j, n, f) =
    let q = same_identifier_meaning (pieces t) (pieces u) i j m n in (
      (λ s. (i, m, subst (IdentifierMeans languages (pieces u)) (sym (q.1 (sym e ∙ s ∙ f))) n)),
      (λ h. e
          ∙ q.0
          (identifiers.one_meaning (pieces t) i h.0 m h.1 ∙ identifiers.one_meaning (pieces u) h.0 j h.2 n)
          ∙ sym f),
    )
same_normal Locale t u a b (M, m, e) (N, n, f) =
    let q = same_meaning languages languages_table t u M N m n in (
      (λ s. (M, m, subst (Means languages u) (sym (q.1 (sym e ∙ s ∙ f))) n)),
      (λ h. e
          ∙ q.0 (locales.one_meaning languages_table t M h.0 m h.1
          ∙ locales.one_meaning languages_table u h.0 N h.2 n)
          ∙ sym f),
    )
same_normal Data t u a b (d, m, e) (c, n, f) = (
  (λ s. (d, m, subst (DataMeans languages u) (sym (one_value (sym e ∙ s ∙ f))) n)),
  (λ h. e ∙ ap data_text (one_data languages_table t d h.0 m h.1 ∙ one_data languages_table u h.0 c h.2 n)
      ∙ sym f),
)
  where
    one_value : data_text d ≡ data_text c → d ≡ c
    one_value x = one_data languages_table (data_text c) d c
        (subst (λ (v : Text). DataMeans languages v d) x (read_back t d m)) (read_back u c n)

-- a text with a fault means nothing
pub faulty_apart : (mode : Mode) (t u : Text) (f : meaning.Fault) → IsFaulty languages mode u f →
    MeanSame mode t u → ⊥
faulty_apart Langid t u f h (i, m, n) = identifier_apart (pieces u) i f n h
faulty_apart Locale t u f h (M, m, n) = accepted_no_fault languages_table u M f n h
faulty_apart Data t u f h (d, m, n) = data_apart languages_table u d f n h

-- two texts mean the same exactly if the same bytes were put
pub bytes_same : (mode : Mode) (t u a b : Text) (before after : ℕ) (same : Bool) →
    IsNormalText languages mode t a → IsNormalText languages mode u b
    → after ≡ from_bool same → IsTrue same ↔ (a ≡ b) → SameIsWritten mode t u before after Done
bytes_same mode t u a b before after same h k is e =
    let q = same_normal mode t u a b h k in (
      (a, h),
      subst (λ (i : ℕ). ((i ≡ 1) × MeanSame mode t u) ⊎ ((i ≡ 0) × ¬ (MeanSame mode t u))) (sym is)
          (number_of_same (MeanSame mode t u) same ((λ s. q.0 (e.0 s)), (λ h. e.1 (q.1 h)))),
    )

-- and a text that means something means nothing that is refused
pub refused_apart : (mode : Mode) (t u : Text) (e : ParseError) → HasRefusal mode u e → MeanSame mode t u →
    ⊥
refused_apart mode t u refusals.OutOfMemory h m = h
refused_apart mode t u _ h m = faulty_apart mode t u _ h m
