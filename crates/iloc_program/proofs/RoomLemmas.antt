-- How much room a reply asks for at most.
use Rattle.std.proofs.Common.{◌≡◌, ◌≢◌, ℕ, ◌+◌, ◌≤◌, List, [], ◌∷◌, ◌++◌, length, Option, None, refl, sym, ap, true≢false, ◌∙◌, subst, arith, length-append, Result, Ok, Err, OnErr}
use Rattle.std.specs.Prelude.{is_some}
use Rattle.iloc_spec_grammar.specs.Syntax.{Text, pieces, join, languages}
use Rattle.iloc_spec_grammar.proofs.Orders.{total}
use Rattle.iloc_spec_grammar.proofs.PiecesLaws.{at_pieces, join-pieces}
use Rattle.iloc_spec_grammar.proofs.StepSizes.{piece_length, length-join}
use Rattle.iloc_memory.specs.Refusals.{RefusedWithin}
use Rattle.iloc_memory.proofs.Within.{within_more}
use Rattle.iloc_subtags.specs.declared.parse_error.ParseError.{ParseError}
use Rattle.iloc_subtags.specs.declared.parse_error.ParseError.TheVariants.{OutOfMemory}
use Rattle.iloc_normalize.specs.Answered.{HasRefusal, refusal_of}
use Rattle.iloc_normalize.specs.declared.writing.Written.{Written}
use Rattle.iloc_normalize.specs.declared.writing.Written.TheVariants.{Normal, Nothing}
use Rattle.iloc_normalize.specs.declared.writing.Written.TheVariants as written
use Rattle.iloc_normalize.specs.declared.Mode.{Mode}
use Rattle.iloc_program.specs.Answers.{output}
use Rattle.iloc_program.specs.ReplyBlock.{room_for, WasRefused}
use Rattle.iloc_program.specs.Replies.{line_room, text_room}

-- a text has at most one piece more than bytes
counted : (ps : List Text) → length ps ≤ total piece_length ps
counted [] = omega arith
counted (p ∷ ps) = let later = counted ps in omega (arith, later)

pub pieces_fit : (t : Text) → length (pieces t) ≤ length t + 1
pieces_fit t =
    let all : total piece_length (pieces t) ≡ length t + 1 =
    at_pieces (λ ps. total piece_length ps ≡ length (join ps) + 1) (λ p ps. sym (length-join p ps)) t
    ∙ ap (λ s. length s + 1) (join-pieces t) in
    let each = counted (pieces t) in omega (arith, all, each)

pub no_bytes : (t : Text) → length t ≡ 0 → t ≡ []
no_bytes [] none = refl
no_bytes (c ∷ cs) none = absurd (omega (arith, none))

-- what is no normal text and no refusal is nothing
pub nothing_written : (w : Written) → ((n : ℕ) → w ≡ Normal n → ⊥) → refusal_of w ≡ None → w ≡ Nothing
nothing_written (Normal n) other none = absurd (other n refl)
nothing_written written.InvalidLanguage other none = absurd (true≢false (ap is_some none))
nothing_written written.InvalidSubtag other none = absurd (true≢false (ap is_some none))
nothing_written written.InvalidExtension other none = absurd (true≢false (ap is_some none))
nothing_written written.DuplicatedExtension other none = absurd (true≢false (ap is_some none))
nothing_written Nothing other none = refl

-- out of memory is no refusal of a text
pub refusal_known : (mode : Mode) (t : Text) (e : ParseError) → HasRefusal mode t e → e ≢ OutOfMemory
refusal_known mode t e h is = subst (HasRefusal mode t) is h

-- so a refusal is written within the room for the reply to its line
pub refusal_room : {A E : Type 0} (Refused : ℕ → Type 0) (P : Type 0) (old mid line : Text) →
    (r : Result A E) → mid ≡ old → P
    → OnErr r (P → RefusedWithin Refused (room_for (length mid + 48)))
    → OnErr r (RefusedWithin Refused (line_room old line))
refusal_room Refused P old mid line (Ok x) same p h = tt
refusal_room Refused P old mid line (Err e) same p h =
    let one = ap length same in within_more Refused _ _ (omega (arith, one)) (h p)

-- room for a line is within that for the text whose replies go on with that to the line
pub line_in_text : (Refused : ℕ → Type 0) (mode : Mode) (old now text rest line : Text) →
    old ++ output languages mode text ≡ now ++ output languages mode rest → length line ≤ length text
    → RefusedWithin Refused (line_room now line) → RefusedWithin Refused (text_room mode old text)
line_in_text Refused mode old now text rest line ahead within h =
    let whole = ap length ahead in
    let front = length-append old (output languages mode text) in
    let back = length-append now (output languages mode rest) in
    within_more Refused _ _ (omega (arith, whole, front, back, within)) h

-- and so is that for a later text
pub later_in_text : (Refused : ℕ → Type 0) (mode : Mode) (old now text rest : Text) →
    old ++ output languages mode text ≡ now ++ output languages mode rest → length rest ≤ length text
    → RefusedWithin Refused (text_room mode now rest) → RefusedWithin Refused (text_room mode old text)
later_in_text Refused mode old now text rest ahead within h =
    let whole = ap length ahead in
    let front = length-append old (output languages mode text) in
    let back = length-append now (output languages mode rest) in
    within_more Refused _ _ (omega (arith, whole, front, back, within)) h

-- what was refused within a bound was refused
pub was_refused : {A E : Type 0} (Refused : ℕ → Type 0) (m : ℕ) (r : Result A E) →
    OnErr r (RefusedWithin Refused m) → OnErr r (WasRefused Refused)
was_refused Refused m (Ok x) h = tt
was_refused Refused m (Err e) (n, below, given) = (n, given)

pub refusal_was_refused : {A E : Type 0} (Refused : ℕ → Type 0) (P : Type 0) (m : ℕ) (r : Result A E) → P →
    OnErr r (P → RefusedWithin Refused m) → OnErr r (WasRefused Refused)
refusal_was_refused Refused P m (Ok x) p h = tt
refusal_was_refused Refused P m (Err e) p h = ((h p).0, (h p).2)
