-- The fault of an identifier, found piece by piece, is that of the grammar.
use Rattle.std.proofs.Common.{◌≡◌, Bool, true, false, not, cond, List, [], ◌∷◌, Option, Some, None, MatchOption, refl, sym, ◌∙◌, arith}
use Rattle.std.specs.List.{list_any}
use Rattle.std.specs.Ordering.{eq_by_cmp}
use Rattle.iloc_spec_grammar.specs.Syntax.{Text, Language, languages, is_word, word_cmp, is_one_byte}
use Rattle.iloc_spec_grammar.specs.Meaning.{InvalidLanguage, InvalidSubtag}
use Rattle.iloc_spec_grammar.specs.Reading.{identifier_of}
use Rattle.iloc_spec_grammar.specs.Computing.{is_identifier}
use Rattle.iloc_normalize.specs.declared.Mode.TheVariants.{Langid}
use Rattle.iloc_faults.specs.declared.state.Part.TheVariants.{Head}
use Rattle.iloc_faults.specs.declared.state.Stage.{Stage}
use Rattle.iloc_faults.specs.Next.{is_new, started, word_next, outcome}
use Rattle.iloc_faults.proofs.Words.{good, good_after, good_end, single_next, word_step}
use Rattle.iloc_faults.proofs.Bodies.{identifier_is}
use Rattle.iloc_faults.proofs.Claims.{in_words, Differ}

many : (vs : List Text) (v : Text) → is_new Langid vs v ≡ not (list_any (eq_by_cmp word_cmp v) vs)
many vs v = refl

words_verdict : (ps : List Text) (stage : Stage) (vs : List Text) → Differ vs →
    outcome Langid (in_words Head stage vs []) ps ≡ cond (good stage vs ps) None (Some InvalidSubtag)
words_verdict [] stage vs d = let g = good_end stage vs d in rw g refl
words_verdict (p ∷ ps) stage vs d = let s = word_step Langid many stage vs p ps d in
    rw s.good_is (by (words_verdict ps) (is_one_byte p) refl (word_next Langid stage vs p) refl s.keeps)
  where
    by : ((stage : Stage) (vs : List Text) → Differ vs →
        outcome Langid (in_words Head stage vs []) ps ≡ cond (good stage vs ps) None (Some InvalidSubtag)) →
        (b : Bool) → is_one_byte p ≡ b → (o : Option (Stage × List Text)) → word_next Langid stage vs p ≡ o →
        MatchOption o (Unit {0}) (λ w. Differ w.1) →
        outcome Langid (in_words Head stage vs []) (p ∷ ps) ≡ cond (good_after o ps) None (Some InvalidSubtag)
    by h true b None e k = rw b refl
    by h true b (Some w) e k = let n : Some w ≡ None = sym e ∙ single_next Langid stage vs p b in cc
    by h false b None e k = rw (b, e) refl
    by h false b (Some w) e k = rw (b, e) (h w.0 w.1 k)

pub identifier_verdict : (p : Text) (ps : List Text) →
    outcome Langid started (p ∷ ps)
    ≡ cond (not (is_word (Language languages) p)) (Some InvalidLanguage)
    (cond (not (is_identifier languages (identifier_of (p ∷ ps)))) (Some InvalidSubtag) None)
identifier_verdict p ps = grind (arith, identifier_is, good, in_words, words_verdict)
