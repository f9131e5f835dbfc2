-- What is answered of a normal text, as a caller says it of what it returns.
use Rattle.std.specs.Prelude.{◌↔◌, ⊤, IfErr, Result}
use Rattle.std.proofs.Common.{◌≡◌, Ok, Err, IfOk}
use Rattle.std.specs.Cow.{cow_str_bytes}
use Rattle.std.specs.declared.borrow.CowStr.{CowStr}
use Rattle.iloc_spec_grammar.specs.Syntax.{Text, languages}
use Rattle.iloc_writeable.specs.Writing.{IsLent}
use Rattle.iloc_subtags.specs.declared.parse_error.ParseError.{ParseError}
use Rattle.iloc_subtags.specs.declared.parse_error.ParseError.TheVariants.{InvalidLanguage, InvalidSubtag, InvalidExtension, DuplicatedExtension, OutOfMemory}
use Rattle.iloc_subtags.specs.Judging.{Refusal, RunsOutOnlyIf}
use Rattle.iloc_normalize.specs.Modes.{IsNormalText, IsFaulty}
use Rattle.iloc_normalize.specs.NormalTexts.{IsNotNormal, IsNormalizedAs}
use Rattle.iloc_normalize.specs.Answered.{HasRefusal}
use Rattle.iloc_normalize.specs.declared.Mode.{Mode}

module _ {Z : Type 0} (mode : Mode) (t : Text) where
  -- a text is what the caller says of normal texts
  pub normal_text : (IsText : Text → Type 0) → ((u : Text) → IsNormalText languages mode t u → IsText u) →
      (r : Result (CowStr Z) ParseError) → IsNormalizedAs mode t r
      → IfOk r (λ c. IsText (cow_str_bytes c) × (IsLent c ↔ (t ≡ cow_str_bytes c)))
  normal_text IsText is (Ok c) h = (is (cow_str_bytes c) h.0, h.1)
  normal_text IsText is (Err e) h = tt

  -- a refusal names the fault
  pub refused : (r : Result (CowStr Z) ParseError) → IsNormalizedAs mode t r →
      IfErr r (Refusal (IsFaulty languages mode t) ⊤)
  refused (Ok c) h = tt
  refused (Err InvalidLanguage) h = h
  refused (Err InvalidSubtag) h = h
  refused (Err InvalidExtension) h = h
  refused (Err DuplicatedExtension) h = h
  refused (Err OutOfMemory) h = tt

  -- memory runs out only if the text is another than its normal text
  pub runs_out : {Wants : Type 0} → (IsNotNormal mode t → Wants) → (r : Result (CowStr Z) ParseError) →
      IsNormalizedAs mode t r → RunsOutOnlyIf Wants r
  runs_out wants (Ok c) h = tt
  runs_out wants (Err InvalidLanguage) h = tt
  runs_out wants (Err InvalidSubtag) h = tt
  runs_out wants (Err InvalidExtension) h = tt
  runs_out wants (Err DuplicatedExtension) h = tt
  runs_out wants (Err OutOfMemory) h = wants h

-- a refusal that is named may be answered
pub refusal : (Z : Type 0) (mode : Mode) (t : Text) (e : ParseError) → HasRefusal mode t e
    → IsNormalizedAs {Z = Z} mode t (Err e)
refusal Z mode t InvalidLanguage h = h
refusal Z mode t InvalidSubtag h = h
refusal Z mode t InvalidExtension h = h
refusal Z mode t DuplicatedExtension h = h
refusal Z mode t OutOfMemory h = absurd h

-- and is none of memory, whatever that would need
pub refusal_is_no_want : (Z Wants : Type 0) (mode : Mode) (t : Text) (e : ParseError) → HasRefusal mode t e →
    RunsOutOnlyIf {X = CowStr Z} Wants (Err e)
refusal_is_no_want Z Wants mode t InvalidLanguage h = tt
refusal_is_no_want Z Wants mode t InvalidSubtag h = tt
refusal_is_no_want Z Wants mode t InvalidExtension h = tt
refusal_is_no_want Z Wants mode t DuplicatedExtension h = tt
refusal_is_no_want Z Wants mode t OutOfMemory h = absurd h
