-- From what the readers answer to what a caller finds.
use Rattle.std.specs.Prelude.{ℤ, MatchResult, ⊤}
use Rattle.std.proofs.Common.{◌≡◌, ℕ, Bool, true, false, IsTrue, ◌↔◌, ◌⊎◌, Result, Ok, Err, inl, inr, refl, sym, ap, ◌∙◌, subst, true≢false}
use Rattle.std.specs.Int.{from_bool}
use Rattle.std.specs.Ordering.{is_eq, nat_cmp}
use Rattle.std.specs.Cmp.Lexicographic.{slice_cmp}
use Rattle.std.specs.declared.cmp.Ordering.{Ordering}
use Rattle.std.specs.declared.cmp.Ordering.TheVariants.{Equal}
use Rattle.iloc_spec_grammar.specs.Syntax.{Text, pieces, languages, Identifier}
use Rattle.iloc_spec_grammar.specs.Meaning as meaning
use Rattle.iloc_spec_grammar.specs.Meaning.{IdentifierMeans, Means, Fault}
use Rattle.iloc_spec_grammar.specs.Values.{identifier_text, text}
use Rattle.iloc_spec_grammar.proofs.RawLaws.{languages_table}
use Rattle.iloc_spec_grammar.proofs.SameFaults.{accepted_no_fault}
use Rattle.iloc_spec_grammar.proofs.IdentifierLaws as identifiers
use Rattle.iloc_spec_grammar.proofs.SameMeaning as locales
use Rattle.iloc_spec_parts.specs.Orders.{identifier_cmp, locale_cmp}
use Rattle.iloc_spec_parts.proofs.OrderLaws.{word_exact, identifier_exact, locale_exact}
use Rattle.iloc_spec_parts.specs.DataLocales.{DataLocale, DataMeans, data_text}
use Rattle.iloc_spec_parts.proofs.DataLaws.{one_data, data_apart, read_back}
use Rattle.iloc_spec_grammar.proofs.IdentifierTexts.{identifier_apart}
use Rattle.iloc_subtags.specs.declared.parse_error.ParseError.{ParseError}
use Rattle.iloc_subtags.specs.declared.parse_error.ParseError.TheVariants as refusals
use Rattle.iloc_langid.specs.Reads as langid
use Rattle.iloc_langid.specs.declared.identifier.LanguageIdentifier.{LanguageIdentifier}
use Rattle.iloc_locale.specs.LocaleReading as locale
use Rattle.iloc_locale.specs.LocaleReading.{LocaleTextReads, LocaleWantsMemory}
use Rattle.iloc_subtags.specs.Judging.{Answers, Refusal, RunsOutOnlyIf}
use Rattle.iloc_locale.specs.declared.locale.Locale as types
use Rattle.iloc_data_parts.specs.PartsReading as parts
use Rattle.iloc_data_parts.specs.declared.parts.DataParts.{DataParts}
use Rattle.iloc_data.specs.DataValue as data_locale
use Rattle.iloc_data.specs.Reads.{DataTextReads}
use Rattle.iloc_data.specs.declared.data_locale.DataLocale as data_types
use Rattle.iloc_normalize.specs.declared.Mode.{Mode}
use Rattle.iloc_normalize.specs.declared.Mode.TheVariants.{Langid, Locale, Data}
use Rattle.iloc_calls.specs.Answers.{CallWantsMemory, JudgedAs, ComparesTo, WritesOrder, OrdersTo, MeanSame, RefusedAnswers, SaysSame, order_number}
use Rattle.iloc_calls.specs.Numbers.{status_of}
use Rattle.iloc_calls.specs.declared.status.Status.{Status}
use Rattle.iloc_calls.specs.declared.status.Status.TheVariants.{Done, OutOfMemory}
use Rattle.iloc_normalize.specs.Modes.{IsNormalText, IsFaulty}
use Rattle.std.specs.Cmp.{Equal-is}

-- what was read has a normal text, which is that of the text; a refusal is the status of the text
abbrev pub Reads : {X : Type 0} → Mode → Text → (X → Text) → Result X ParseError → Type 0
Reads mode t text_of r =
    MatchResult r (λ x. IsNormalText languages mode t (text_of x)) (λ e. JudgedAs mode t (status_of e))

abbrev pub text_of_identifier : LanguageIdentifier → Text
text_of_identifier i = identifier_text (langid.value_of i)

abbrev pub text_of_locale : types.Locale → Text
text_of_locale l = text (locale.value_of l)

abbrev pub text_of_data : data_types.DataLocale → Text
text_of_data d = data_text (data_locale.value_of d)

abbrev pub text_of_parts : DataParts → Text
text_of_parts p = data_text (parts.value_of p)

-- a reader answers by the grammar, with its memory: so what it read has a normal text
by_grammar : {X : Type 0} (mode : Mode) (t : Text) (text_of : X → Text) {IsMeant : X → Type 0}
    → ((x : X) → IsMeant x → IsNormalText languages mode t (text_of x)) → (r : Result X ParseError)
    → Answers IsMeant (IsFaulty languages mode t) ⊤ r → RunsOutOnlyIf (CallWantsMemory mode t) r
    → Reads mode t text_of r
by_grammar mode t text_of normal (Ok x) h m = normal x h
by_grammar mode t text_of normal (Err refusals.OutOfMemory) h m = m
by_grammar mode t text_of normal (Err _) h m = h

pub identifier_read : (t : Text) (r : Result LanguageIdentifier ParseError) →
    langid.IdentifierReads (pieces t) r
    → RunsOutOnlyIf (langid.IdentifierWantsMemory (pieces t)) r → Reads Langid t text_of_identifier r
identifier_read t = by_grammar Langid t text_of_identifier (λ i h. (langid.value_of i, h, refl))

pub locale_read : (t : Text) (r : Result types.Locale ParseError) → LocaleTextReads t r
    → RunsOutOnlyIf (LocaleWantsMemory t) r → Reads Locale t text_of_locale r
locale_read t = by_grammar Locale t text_of_locale (λ l h. (locale.value_of l, h, refl))

pub data_read : (t : Text) (r : Result data_types.DataLocale ParseError) → DataTextReads t r →
    RunsOutOnlyIf ⊥ r
    → Reads Data t text_of_data r
data_read t = by_grammar Data t text_of_data (λ d h. (data_locale.value_of d, h, refl))

-- the parts of a data locale that were parsed have its text
pub parts_judged : (t : Text) (p : DataParts) → DataMeans languages t (parts.value_of p) →
    JudgedAs Data t Done
parts_judged t p h = (text_of_parts p, (parts.value_of p, h, refl))

-- so the text is judged as it was read
pub judged : {X : Type 0} (mode : Mode) (t : Text) (text_of : X → Text) (r : Result X ParseError)
    (s : Status)
    → Reads mode t text_of r → MatchResult r (λ x. s ≡ Done) (λ e. s ≡ status_of e) → JudgedAs mode t s
judged mode t text_of (Ok x) s h e = subst (JudgedAs mode t) (sym e) (text_of x, h)
judged mode t text_of (Err f) s h e = subst (JudgedAs mode t) (sym e) h

-- and compared as it was read
pub compared : {X : Type 0} (mode : Mode) (t other : Text) (before after : ℤ) (text_of : X → Text)
    (r : Result X ParseError) (s : Status)
    → Reads mode t text_of r
    → MatchResult r (λ x. (s ≡ Done) × (after ≡ order_number (slice_cmp nat_cmp (text_of x) other)))
    (λ e. (s ≡ status_of e) × (after ≡ before))
    → ComparesTo mode t other before after s
compared mode t other before after text_of (Ok x) s h e =
    subst (ComparesTo mode t other before after) (sym e.0) (text_of x, h, e.1)
compared mode t other before after text_of (Err refusals.OutOfMemory) s h e =
    subst (ComparesTo mode t other before after) (sym e.0) (h, e.1)
compared mode t other before after text_of (Err _) s h e =
    subst (ComparesTo mode t other before after) (sym e.0) (h, e.1)

-- two texts are ordered as both were read
module _ {X : Type 0} (mode : Mode) (t other : Text) (before after : ℤ) (text_of : X → Text)
    (s : Status) where
  abbrev Ordered : Result X ParseError → Result X ParseError → Type 0
  Ordered first second = MatchResult first
      (λ a. MatchResult second (λ b. WritesOrder (text_of a) (text_of b) other before after s)
      (λ e. (s ≡ status_of e) × (after ≡ before)))
      (λ e. (s ≡ status_of e) × (after ≡ before))

  both_read : (a b : X) → IsNormalText languages mode t (text_of a) →
      IsNormalText languages mode other (text_of b) → (k : Status) → s ≡ k
      → WritesOrder (text_of a) (text_of b) other before after k → OrdersTo mode t other before after k
  both_read a b h n Done e o = (text_of a, text_of b, h, n, o)
  both_read a b h n OutOfMemory e o = (inr (inr (text_of b, n, o.0)), o.1)
  both_read a b h n _ e o = absurd o

  first_refused : (e : ParseError) → JudgedAs mode t (status_of e) → after ≡ before →
      OrdersTo mode t other before after (status_of e)
  first_refused refusals.OutOfMemory h u = (inl h, u)
  first_refused _ h u = (inl h, u)

  second_refused : (a : X) → IsNormalText languages mode t (text_of a) → (e : ParseError) →
      JudgedAs mode other (status_of e) → after ≡ before → OrdersTo mode t other before after (status_of e)
  second_refused a n refusals.OutOfMemory h u = (inr (inl h), u)
  second_refused a n _ h u = (inr (text_of a, n, h), u)

  pub ordered : (first second : Result X ParseError) → Reads mode t text_of first →
      Reads mode other text_of second → Ordered first second → OrdersTo mode t other before after s
  ordered (Ok a) (Ok b) h k o = both_read a b h k s refl o
  ordered (Ok a) (Err e) h k o =
      subst (OrdersTo mode t other before after) (sym o.0) (second_refused a h e k o.1)
  ordered (Err e) second h k o = subst (OrdersTo mode t other before after) (sym o.0) (first_refused e h o.1)

-- Two values mean the same where they are one value.

pub number_of_same : (P : Type 0) (same : Bool) → IsTrue same ↔ P →
    ((from_bool same ≡ 1) × P) ⊎ ((from_bool same ≡ 0) × ¬ P)
number_of_same P true e = inl (refl, e.0 refl)
number_of_same P false e = inr (refl, λ m. true≢false (sym (e.1 m)))

abbrev Answered : Mode → Text → Text → ℕ → Type 0
Answered mode t other after =
    ((after ≡ 1) × MeanSame mode t other) ⊎ ((after ≡ 0) × ¬ (MeanSame mode t other))

told : (mode : Mode) (t other : Text) (after : ℕ) (same : Bool) → after ≡ from_bool same →
    IsTrue same ↔ MeanSame mode t other → Answered mode t other after
told mode t other after same a e =
    subst (Answered mode t other) (sym a) (number_of_same (MeanSame mode t other) same e)

equal_order : (o : Ordering) (same : Bool) → same ≡ is_eq o → IsTrue same ↔ (o ≡ Equal)
equal_order o same e = (λ s. (Equal-is o).0 (sym e ∙ s), λ h. e ∙ (Equal-is o).1 h)

same_values : {V : Type 0} (Means : Text → V → Type 0)
    (one : (t : Text) (v w : V) → Means t v → Means t w → v ≡ w) (t other : Text) (v w : V) (o : Ordering)
    (same : Bool) → Means t v → Means other w → o ≡ Equal ↔ v ≡ w → same ≡ is_eq o
    → IsTrue same ↔ ((x : V) × Means t x × Means other x)
same_values Means one t other v w o same m n exact e =
    let q = equal_order o same e in (
      (λ s. (v, m, subst (Means other) (sym (exact.0 (q.0 s))) n)),
      (λ h. q.1 (exact.1 (one t v h.0 m h.1 ∙ one other h.0 w h.2 n))),
    )

pub same_identifiers_read : (t other : Text) (before after : ℕ) (i j : Identifier) (same : Bool)
    → IdentifierMeans languages (pieces t) i → IdentifierMeans languages (pieces other) j
    → same ≡ is_eq (identifier_cmp i j) → after ≡ from_bool same → SaysSame Langid t other before after Done
same_identifiers_read t other before after i j same m n e a = (
  (identifier_text i, (i, m, refl)),
  told Langid t other after same a
      (same_values (λ u k. IdentifierMeans languages (pieces u) k) (λ u. identifiers.one_meaning (pieces u))
      t other i j (identifier_cmp i j) same m n (identifier_exact.exact i j) e),
)

pub same_locales_read : (t other : Text) (before after : ℕ) (M N : meaning.Locale) (same : Bool)
    → Means languages t M → Means languages other N
    → same ≡ is_eq (locale_cmp M N) → after ≡ from_bool same → SaysSame Locale t other before after Done
same_locales_read t other before after M N same m n e a = (
  (text M, (M, m, refl)),
  told Locale t other after same a
      (same_values (Means languages) (locales.one_meaning languages_table) t other M N (locale_cmp M N) same
      m n (locale_exact.exact M N) e),
)

pub same_data_read : (t other : Text) (before after : ℕ) (d e : DataLocale) (o : Ordering) (same : Bool)
    → DataMeans languages t d → DataMeans languages other e →
    o ≡ slice_cmp nat_cmp (data_text d) (data_text e)
    → same ≡ is_eq o → after ≡ from_bool same → SaysSame Data t other before after Done
same_data_read t other before after d e o same m n is f a =
    let exact = word_exact.exact (data_text d) (data_text e) in (
      (data_text d, (d, m, refl)),
      told Data t other after same a
          (same_values (DataMeans languages) (one_data languages_table) t other d e o same m n
          (λ s. one_value (exact.0 (sym is ∙ s)), λ s. is ∙ exact.1 (ap data_text s)) f),
    )
  where
    one_value : data_text d ≡ data_text e → d ≡ e
    one_value x = one_data languages_table (data_text e) d e
        (subst (λ (u : Text). DataMeans languages u d) x (read_back t d m)) (read_back other e n)

-- What is refused means nothing, unless memory was wanted.

no_meaning : {V : Type 0} {Means : V → Type 0} {HasFault : Fault → Type 0}
    → ((v : V) (f : Fault) → Means v → HasFault f → ⊥) → (e : ParseError) → (e ≡ refusals.OutOfMemory → ⊥)
    → Refusal HasFault ⊤ e → (v : V) → Means v → ⊥
no_meaning apart refusals.OutOfMemory n h v m = absurd (n refl)
no_meaning apart refusals.InvalidLanguage n h v m = apart v _ m h
no_meaning apart refusals.InvalidSubtag n h v m = apart v _ m h
no_meaning apart refusals.InvalidExtension n h v m = apart v _ m h
no_meaning apart refusals.DuplicatedExtension n h v m = apart v _ m h

pub other_identifier : (t other : Text) (before after : ℕ) (i : Identifier) (e : ParseError) (s : Status) →
    IdentifierMeans languages (pieces t) i
    → langid.IdentifierReads (pieces other) (Err e) →
    RunsOutOnlyIf {X = LanguageIdentifier} (langid.IdentifierWantsMemory (pieces other)) (Err e)
    → RefusedAnswers e before after s → SaysSame Langid t other before after s
other_identifier t other before after i e s m h w (inl r) =
    subst (SaysSame Langid t other before after) (sym r.1) (
      inr (subst
          (λ f. RunsOutOnlyIf {X = LanguageIdentifier} (langid.IdentifierWantsMemory (pieces other)) (Err f))
          r.0 w),
      r.2,
    )
other_identifier t other before after i e s m h w (inr r) =
    subst (SaysSame Langid t other before after) (sym r.1) (
      (identifier_text i, (i, m, refl)),
      inr (r.2, λ k. no_meaning (identifier_apart (pieces other)) e r.0 h k.0 k.2),
    )

pub other_locale : (t other : Text) (before after : ℕ) (M : meaning.Locale) (e : ParseError) (s : Status) →
    Means languages t M
    → LocaleTextReads other (Err e) → RunsOutOnlyIf {X = types.Locale} (LocaleWantsMemory other) (Err e)
    → RefusedAnswers e before after s → SaysSame Locale t other before after s
other_locale t other before after M e s m h w (inl r) =
    subst (SaysSame Locale t other before after) (sym r.1)
    (inr (subst (λ f. RunsOutOnlyIf {X = types.Locale} (LocaleWantsMemory other) (Err f)) r.0 w), r.2)
other_locale t other before after M e s m h w (inr r) =
    subst (SaysSame Locale t other before after) (sym r.1) (
      (text M, (M, m, refl)),
      inr (r.2, λ k. no_meaning (accepted_no_fault languages_table other) e r.0 h k.0 k.2),
    )

pub other_data_locale : (t other : Text) (before after : ℕ) (d : DataLocale) (e : ParseError) →
    DataMeans languages t d
    → DataTextReads other (Err e) → RunsOutOnlyIf {X = data_types.DataLocale} ⊥ (Err e) → after ≡ 0 →
    SaysSame Data t other before after Done
other_data_locale t other before after d e m h w a = (
  (data_text d, (d, m, refl)),
  inr (
    a,
    λ s. no_meaning (data_apart languages_table other) e
        (λ q. subst (λ f. RunsOutOnlyIf {X = data_types.DataLocale} ⊥ (Err f)) q w) h s.0 s.2,
  ),
)

pub unprinted_data_locale : (t other : Text) (before : ℕ) (e : DataLocale) (s : Status) →
    DataMeans languages other e → s ≡ OutOfMemory
    → (other ≡ data_text e → ⊥) → SaysSame Data t other before before s
unprinted_data_locale t other before e s m q n =
    subst (SaysSame Data t other before before) (sym q) ((data_text e, (e, m, refl), n), refl)
