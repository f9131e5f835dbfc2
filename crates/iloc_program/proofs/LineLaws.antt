-- `lines_of` is the cut at LF, and no other.
use Rattle.std.proofs.Common.{◌≡◌, ◌≢◌, ℕ, List, [], ◌∷◌, ◌++◌, ◌⊎◌, inl, inr, refl, ap, ◌∙◌, append_assoc}
use Rattle.std.specs.List.{AllByRecursion}
use Rattle.std.proofs.lemmas.List.Elements.{All-nil, All-cons}
use Rattle.std.proofs.lemmas.Bool.{cases_eq}
use Rattle.iloc_program.specs.Lines.{ended, IsOneLine, ReadsEnded, ReadsOpen, IsEndedOrOpen}
use Rattle.iloc_program.proofs.LineCuts.{lines_of-cut, lines_of-last}
use Rattle.iloc_spec_grammar.specs.Syntax.{Text}

pub reads_ended : ReadsEnded
reads_ended [] h = refl
reads_ended (line ∷ lines) h =
    rw append_assoc
    (lines_of-cut line (ended lines) h.0 ∙ ap (λ (t : List Text). line ∷ t) (reads_ended lines h.1))

pub reads_open : ReadsOpen
reads_open [] [] h o some = absurd (some refl)
reads_open [] (c ∷ last) h o some = lines_of-last c last o
reads_open (line ∷ lines) last h o some =
    let joined : (line ++ 10 ∷ []) ++ ended lines ++ last ≡ line ++ 10 ∷ (ended lines ++ last) =
    simp append_assoc in
    rw joined (lines_of-cut line (ended lines ++ last) h.0
    ∙ ap (λ (t : List Text). line ∷ t) (reads_open lines last h.1 o some))

Form : Text → Type 0
Form text = (lines : List Text) × AllByRecursion IsOneLine lines
    × ((text ≡ ended lines) ⊎ ((last : Text) × IsOneLine last × (last ≢ []) × (text ≡ ended lines ++ last)))

cut : (c : ℕ) (text : Text) → c ≡ 10 → Form text → Form (c ∷ text)
unfolding Form
cut c text e (lines, h, inl whole) =
    ([] ∷ lines, (All-nil (λ (b : ℕ). b ≢ 10), h), inl (rw e (ap (λ (t : Text). 10 ∷ t) whole)))
cut c text e (lines, h, inr (last, o, some, whole)) = (
  [] ∷ lines,
  (All-nil (λ (b : ℕ). b ≢ 10), h),
  inr (last, o, some, rw e (ap (λ (t : Text). 10 ∷ t) whole)),
)

grown : (c : ℕ) (text : Text) → c ≢ 10 → Form text → Form (c ∷ text)
unfolding Form
grown c text e ([], h, inl whole) = (
  [],
  tt,
  inr (
    c ∷ [],
    All-cons (λ (b : ℕ). b ≢ 10) c [] e (All-nil (λ (b : ℕ). b ≢ 10)),
    (λ (z : c ∷ [] ≡ []). cc),
    ap (λ (t : Text). c ∷ t) whole,
  ),
)
grown c text e (line ∷ lines, h, inl whole) = (
  (c ∷ line) ∷ lines,
  (All-cons (λ (b : ℕ). b ≢ 10) c line e h.0, h.1),
  inl (ap (λ (t : Text). c ∷ t) whole),
)
grown c text e ([], h, inr (last, o, some, whole)) = (
  [],
  tt,
  inr (
    c ∷ last,
    All-cons (λ (b : ℕ). b ≢ 10) c last e o,
    (λ (z : c ∷ last ≡ []). cc),
    ap (λ (t : Text). c ∷ t) whole,
  ),
)
grown c text e (line ∷ lines, h, inr (last, o, some, whole)) = (
  (c ∷ line) ∷ lines,
  (All-cons (λ (b : ℕ). b ≢ 10) c line e h.0, h.1),
  inr (last, o, some, ap (λ (t : Text). c ∷ t) whole),
)

by_byte : (c : ℕ) (text : Text) → Form text → (c ≡ 10) ⊎ (c ≢ 10) → Form (c ∷ text)
by_byte c text f (inl e) = cut c text e f
by_byte c text f (inr e) = grown c text e f

form : (text : Text) → Form text
unfolding Form
form [] = ([], tt, inl refl)
form (c ∷ text) = by_byte c text (form text) (cases_eq c 10)

pub is_ended_or_open : IsEndedOrOpen
unfolding Form
is_ended_or_open text = form text
