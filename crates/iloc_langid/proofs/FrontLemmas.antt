-- From what a front is read as to what the whole or the head is read as.
use Rattle.std.proofs.Common.{◌≡◌, ◌≢◌, inl, inr, true, false, List, [], ◌∷◌, ◌++◌, refl, sym, ap, ◌∙◌, subst, append-nil, Some, None, option_map, Result, Ok, Err, true≢false, arith}
use Rattle.std.specs.Result.{result_and}
use Rattle.iloc_spec_grammar.specs.Syntax.{Text, Language, Script, Region, is_word, IsWord, normal, lower, title, upper, languages, first_piece, front, head}
use Rattle.iloc_spec_grammar.specs.Meaning.{IdentifierMeans, HasIdentifierFault, not_a_language, not_an_identifier}
use Rattle.iloc_spec_grammar.specs.Reading.{first_item, take_first, skip_first, front_of, after_front, from_block, after_head, starts_block, IdentifierFront}
use Rattle.iloc_spec_grammar.proofs.ReadingLaws.{EndsWords, starts_ends, from_block_starts, front-from_block, front_long, after_long, starts_empty, after_front-append, front_means, refuses_more, refuses_repeat, front_of-append, front_is_front}
use Rattle.iloc_subtags.specs.declared.parse_error.ParseError.{ParseError}
use Rattle.iloc_subtags.specs.declared.parse_error.ParseError.TheVariants.{InvalidLanguage, InvalidSubtag, InvalidExtension, DuplicatedExtension, OutOfMemory}
use Rattle.iloc_subtags.specs.Judging.{Answers, RunsOutOnlyIf}
use Rattle.iloc_langid.specs.declared.identifier.LanguageIdentifier.{LanguageIdentifier}
use Rattle.iloc_langid.specs.declared.plain.PlainParts.{PlainParts}
use Rattle.iloc_langid.specs.PlainReads.{IsPlainFront}
use Rattle.iloc_langid.specs.Reads.{value_of, IdentifierReads, IdentifierWantsMemory, FrontComputed, FrontReads, VariantsReads}

pub no_empty_language : is_word (Language languages) [] ≡ false
unfolding is_word languages
no_empty_language = refl

pub no_language : {P : Type 0} → IsWord (Language languages) [] → P
no_language h = absurd (true≢false (sym h ∙ no_empty_language))

-- no language was taken from the front
pub none_first : (ps : List Text) →
    None ≡ option_map (normal (Language languages)) (take_first (is_word (Language languages)) ps) →
    is_word (Language languages) (first_piece ps) ≡ false
none_first ps h = grind (arith, no_empty_language)

-- the language, the script and the region, taken one after the other
pub plain_front : (ps : List Text) (first : Text) (qs rs us : List Text) (plain : PlainParts)
    → ps ≡ first ∷ qs → IsWord (Language languages) first → plain.language ≡ lower first
    → plain.script ≡ option_map title (take_first (is_word Script) qs) → rs ≡ skip_first (is_word Script) qs
    → plain.region ≡ option_map upper (take_first (is_word Region) rs) → us ≡ skip_first (is_word Region) rs
    → IsPlainFront ps us plain
plain_front ps first qs rs us plain e w l s er r eu = grind arith

abbrev pub plain_of : LanguageIdentifier → PlainParts
plain_of i = record { language = i.language; script = i.script; region = i.region }

-- these, and the variants after them
module _ (ps us rest : List Text) (i : LanguageIdentifier) (plain : IsPlainFront ps us (plain_of i)) where
  pub front_gives : VariantsReads us rest (Ok i.variants) → FrontComputed ps rest (Ok i)
  unfolding front_of after_front
  front_gives v = grind arith

  front_refuses : (f : ParseError) → VariantsReads us rest (Err f) → FrontComputed ps rest (Err f)
  unfolding front_of
  front_refuses f v = grind arith

  -- by the answer of what fills in the variants
  pub front_filled : (r : Result (Unit {0}) ParseError) →
      VariantsReads us rest (result_and r (Ok i.variants)) → FrontComputed ps rest (result_and r (Ok i))
  front_filled r h = grind (arith, front_gives, front_refuses)

-- what the pieces are read as, and when memory may run out
abbrev pub ReadsWithMemory : List Text → Result LanguageIdentifier ParseError → Type 0
ReadsWithMemory ps = Answers (λ i. IdentifierMeans languages ps (value_of i))
    (HasIdentifierFault languages ps) (IdentifierWantsMemory ps)

-- each by itself, of a refusal

pub refused_reads : (ps : List Text) (f : ParseError) → ReadsWithMemory ps (Err f) →
    IdentifierReads ps (Err f)
refused_reads ps f h = grind arith

pub refused_wants : (ps : List Text) (f : ParseError) → ReadsWithMemory ps (Err f) →
    RunsOutOnlyIf {X = Unit {0}} (IdentifierWantsMemory ps) (Err f)
refused_wants ps f h = grind arith

-- where the front should end before rest
module _ (p : Text) (qs rest : List Text) (ends : EndsWords rest) (r : List Text) where
  cut_refuses : (f : ParseError) → FrontComputed (p ∷ (qs ++ rest)) r (Err f) →
      ReadsWithMemory (p ∷ qs) (Err f)
  cut_refuses InvalidLanguage (inl g) = not_a_language g.1
  cut_refuses InvalidLanguage (inr g) = let other = g.0 in cc
  cut_refuses InvalidSubtag (inl g) = let other = g.0 in cc
  cut_refuses InvalidSubtag (inr g) = not_an_identifier g.1.0 (refuses_repeat languages p qs rest ends g.1.1)
  cut_refuses OutOfMemory g = grind (arith, front_of-append)
  cut_refuses InvalidExtension (inl g) = let other = g.0 in cc
  cut_refuses InvalidExtension (inr g) = let other = g.0 in cc
  cut_refuses DuplicatedExtension (inl g) = let other = g.0 in cc
  cut_refuses DuplicatedExtension (inr g) = let other = g.0 in cc

  cut_gives : (i : LanguageIdentifier) → FrontComputed (p ∷ (qs ++ rest)) r (Ok i) → r ≡ rest →
      IdentifierReads (p ∷ qs) (Ok i)
  cut_gives i g e = grind (arith, front_means)

  cut_more : (i : LanguageIdentifier) → FrontComputed (p ∷ (qs ++ rest)) r (Ok i) → r ≢ rest →
      IdentifierReads (p ∷ qs) (Err InvalidSubtag)
  cut_more i g n = not_an_identifier g.0 (refuses_more languages p qs rest ends (λ e. n (g.3 ∙ e)))

ends_nowhere : EndsWords []
ends_nowhere = record { script = tt; region = tt; variant = tt }

-- all the pieces

at_end : (p : Text) (ps r : List Text) (x : Result LanguageIdentifier ParseError) →
    FrontComputed (p ∷ ps) r x → FrontComputed (p ∷ (ps ++ [])) r x
at_end p ps r x g = grind (arith, append-nil)

pub whole_refuses : (ps r : List Text) (f : ParseError) → FrontComputed ps r (Err f) →
    ReadsWithMemory ps (Err f)
whole_refuses (p ∷ ps) r f g = cut_refuses p ps [] ends_nowhere r f (at_end p ps r (Err f) g)
whole_refuses [] r InvalidLanguage (inl g) = not_a_language g.1
whole_refuses [] r InvalidLanguage (inr g) = let other = g.0 in cc
whole_refuses [] r InvalidSubtag (inl g) = let other = g.0 in cc
whole_refuses [] r InvalidSubtag (inr g) = no_language g.1.0
whole_refuses [] r OutOfMemory g = no_language g.0
whole_refuses [] r InvalidExtension (inl g) = let other = g.0 in cc
whole_refuses [] r InvalidExtension (inr g) = let other = g.0 in cc
whole_refuses [] r DuplicatedExtension (inl g) = let other = g.0 in cc
whole_refuses [] r DuplicatedExtension (inr g) = let other = g.0 in cc

pub whole_gives : (ps r : List Text) (i : LanguageIdentifier) → FrontComputed ps r (Ok i) → r ≡ [] →
    IdentifierReads ps (Ok i)
whole_gives [] r i g e = no_language g.0
whole_gives (p ∷ ps) r i g e = cut_gives p ps [] ends_nowhere r i (at_end p ps r (Ok i) g) e

pub whole_more : (ps r : List Text) (i : LanguageIdentifier) → FrontComputed ps r (Ok i) → r ≢ [] →
    IdentifierReads ps (Err InvalidSubtag)
whole_more [] r i g n = no_language g.0
whole_more (p ∷ ps) r i g n = cut_more p ps [] ends_nowhere r i (at_end p ps r (Ok i) g) n

-- the pieces before the first block

at_block : (p : Text) (ps r : List Text) (x : Result LanguageIdentifier ParseError) →
    FrontComputed (p ∷ ps) r x → FrontComputed (p ∷ (front ps ++ from_block ps)) r x
at_block p ps r x g = grind (arith, front-from_block)

block_ends : (ps : List Text) → EndsWords (from_block ps)
block_ends ps = starts_ends (from_block ps) (from_block_starts ps)

pub head_refuses : (ps r : List Text) (f : ParseError) → FrontComputed ps r (Err f) →
    ReadsWithMemory (head ps) (Err f)
head_refuses (p ∷ ps) r f g =
    cut_refuses p (front ps) (from_block ps) (block_ends ps) r f (at_block p ps r (Err f) g)
head_refuses [] r f g = whole_refuses [] r f g

starts_there : (p : Text) (ps r : List Text) (i : LanguageIdentifier) →
    FrontComputed (p ∷ ps) r (Ok i) → starts_block r ≡ true → r ≡ from_block ps
starts_there p ps r i g s =
    let cut : r ≡ after_front (p ∷ front ps) ++ from_block ps =
    (at_block p ps r (Ok i) g).3 ∙ after_front-append p (front ps) (from_block ps) (block_ends ps) in
    let none : after_front (p ∷ front ps) ≡ [] = starts_empty (after_front (p ∷ front ps)) (from_block ps)
    (after_long p (front ps) (front_long ps)) (ap starts_block (sym cut) ∙ s) in
    cut ∙ ap (λ l. l ++ from_block ps) none

pub head_gives : (ps r : List Text) (i : LanguageIdentifier) → FrontComputed ps r (Ok i) →
    starts_block r ≡ true → IdentifierReads (head ps) (Ok i) × (r ≡ after_head ps)
head_gives [] r i g s = no_language g.0
head_gives (p ∷ ps) r i g s =
    let e = starts_there p ps r i g s in
    (cut_gives p (front ps) (from_block ps) (block_ends ps) r i (at_block p ps r (Ok i) g) e, e)

pub head_more : (ps r : List Text) (i : LanguageIdentifier) → FrontComputed ps r (Ok i) →
    starts_block r ≡ false → IdentifierReads (head ps) (Err InvalidSubtag)
head_more [] r i g s = no_language g.0
head_more (p ∷ ps) r i g s =
    cut_more p (front ps) (from_block ps) (block_ends ps) r i (at_block p ps r (Ok i) g)
    (λ e. true≢false (sym (from_block_starts ps) ∙ ap starts_block (sym e) ∙ s))

-- what a look at the next piece says

pub peeked_none : (ps : List Text) → None ≡ first_item ps → ps ≡ []
peeked_none [] e = refl
peeked_none (p ∷ ps) e = cc

pub peeked_some : (ps : List Text) (p : Text) → Some p ≡ first_item ps → ps ≢ []
peeked_some [] p e = cc
peeked_some (q ∷ ps) p e = λ h. cc

-- the reading from the left is that of the longest front
pub front_reads : (ps rest : List Text) (r : Result LanguageIdentifier ParseError) →
    FrontComputed ps rest r → FrontReads ps rest r
front_reads (p ∷ ps) rest (Ok i) g = FrontReads.front_given (front_of (p ∷ ps))
    (subst (IdentifierFront languages (p ∷ ps) (front_of (p ∷ ps))) (sym g.3) (front_is_front p ps g.0))
    g.1 g.2
front_reads (p ∷ ps) rest (Err InvalidSubtag) (inl g) = let other = g.0 in cc
front_reads (p ∷ ps) rest (Err InvalidSubtag) (inr g) =
    FrontReads.front_repeats (front_of (p ∷ ps)) (front_is_front p ps g.1.0) g.1.1
front_reads (p ∷ ps) rest (Err OutOfMemory) g =
    FrontReads.front_wants_memory (front_of (p ∷ ps)) (front_is_front p ps g.0) g.1
front_reads [] rest (Ok i) g = no_language g.0
front_reads [] rest (Err InvalidSubtag) (inl g) = let other = g.0 in cc
front_reads [] rest (Err InvalidSubtag) (inr g) = no_language g.1.0
front_reads [] rest (Err OutOfMemory) g = no_language g.0
front_reads ps rest (Err InvalidLanguage) (inl g) = FrontReads.front_lacks_language g.1
front_reads ps rest (Err InvalidLanguage) (inr g) = let other = g.0 in cc
front_reads ps rest (Err InvalidExtension) (inl g) = let other = g.0 in cc
front_reads ps rest (Err InvalidExtension) (inr g) = let other = g.0 in cc
front_reads ps rest (Err DuplicatedExtension) (inl g) = let other = g.0 in cc
front_reads ps rest (Err DuplicatedExtension) (inr g) = let other = g.0 in cc
