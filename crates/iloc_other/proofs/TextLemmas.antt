-- Texts that are read as a part with its singleton.
use Rattle.std.proofs.Common.{◌≡◌, ◌≢◌, ℕ, true, false, List, refl, sym, ap, ◌∙◌, subst, arith, Some, None, Result, Ok, Err}
use Rattle.std.proofs.lemmas.Bool.Decides.{nat_tests}
use Rattle.iloc_spec_grammar.specs.Syntax.{code_x, Text, pieces, is_other_singleton}
use Rattle.iloc_spec_grammar.specs.Meaning as faults
use Rattle.iloc_spec_grammar.specs.Reading.{rest_of}
use Rattle.iloc_spec_parts.specs.Fronts.{OtherRead, OtherFault, PrivateRead, PrivateFault}
use Rattle.iloc_spec_parts.specs.Parts.{PartRead, is_letter, OtherTextFault, PrivateTextFault}
use Rattle.iloc_subtags.specs.declared.parse_error.ParseError.{ParseError}
use Rattle.iloc_subtags.specs.declared.parse_error.ParseError.TheVariants.{InvalidLanguage, InvalidSubtag, InvalidExtension, DuplicatedExtension, OutOfMemory}
use Rattle.iloc_subtags.specs.Judging.{RunsOutOnlyIf}
use Rattle.iloc_other.specs.Reading.{PrivateReads, PrivateWantsMemory, PrivateTextReads, PrivateTextWants, OtherReads, OtherWantsMemory, OtherTextReads, OtherTextWants}
use Rattle.iloc_other.specs.Singleton.{singleton_at}
use Rattle.iloc_other.proofs.SingletonLemmas.{begins, part_reads, part_fault, part_other, part_none}

pub another_letter : (c d : ℕ) → d ≢ c → is_letter c d ≡ false
another_letter c d h = grind (arith, nat_tests)

module _ (t : Text) where
  pub private_none : None ≡ singleton_at (pieces t) → PrivateTextFault t faults.InvalidExtension
  private_none e = part_none (is_letter code_x) (pieces t) PrivateFault e

  pub private_other : (c : ℕ) → Some c ≡ singleton_at (pieces t) → c ≢ code_x →
      PrivateTextFault t faults.InvalidExtension
  private_other c e n = part_other (is_letter code_x) (pieces t) PrivateFault c e (another_letter code_x c n)

  pub other_none : None ≡ singleton_at (pieces t) → OtherTextFault t faults.InvalidExtension
  other_none e = part_none is_other_singleton (pieces t) OtherFault e

  pub other_other : (c : ℕ) → Some c ≡ singleton_at (pieces t) → is_other_singleton c ≡ false →
      OtherTextFault t faults.InvalidExtension
  other_other c e n = part_other is_other_singleton (pieces t) OtherFault c e n

  module _ (c : ℕ) (found : Some c ≡ singleton_at (pieces t)) (more rest : List Text)
      (after : more ≡ rest_of (pieces t)) where
    pub private_reads : c ≡ code_x → (r : Result (List Text) ParseError) → PrivateReads more rest r →
        PrivateTextReads t r
    private_reads x (Ok ws) h = (
      rest,
      part_reads (is_letter code_x) (pieces t) PrivateRead code_x ws rest (ap (λ d. Some d) (sym x) ∙ found)
          refl
          (subst (λ l. PrivateRead l ws rest) after h),
    )
    private_reads x (Err InvalidExtension) h =
        part_fault (is_letter code_x) (pieces t) PrivateFault code_x faults.InvalidExtension
        (ap (λ d. Some d) (sym x) ∙ found) refl (subst (λ l. PrivateFault l faults.InvalidExtension) after h)
    private_reads x (Err OutOfMemory) h = tt
    private_reads x (Err InvalidLanguage) h =
        part_fault (is_letter code_x) (pieces t) PrivateFault code_x faults.InvalidLanguage
        (ap (λ d. Some d) (sym x) ∙ found) refl (subst (λ l. PrivateFault l faults.InvalidLanguage) after h)
    private_reads x (Err InvalidSubtag) h =
        part_fault (is_letter code_x) (pieces t) PrivateFault code_x faults.InvalidSubtag
        (ap (λ d. Some d) (sym x) ∙ found) refl (subst (λ l. PrivateFault l faults.InvalidSubtag) after h)
    private_reads x (Err DuplicatedExtension) h = part_fault (is_letter code_x) (pieces t) PrivateFault code_x
        faults.DuplicatedExtension (ap (λ d. Some d) (sym x) ∙ found) refl
        (subst (λ l. PrivateFault l faults.DuplicatedExtension) after h)

    pub private_memory : c ≡ code_x → (r : Result (List Text) ParseError) →
        RunsOutOnlyIf (PrivateWantsMemory more) r → RunsOutOnlyIf (PrivateTextWants t) r
    private_memory x (Ok o) h = tt
    private_memory x (Err InvalidLanguage) h = tt
    private_memory x (Err InvalidSubtag) h = tt
    private_memory x (Err InvalidExtension) h = tt
    private_memory x (Err DuplicatedExtension) h = tt
    private_memory x (Err OutOfMemory) h = (
      begins (is_letter code_x) (pieces t) code_x (ap (λ d. Some d) (sym x) ∙ found),
      subst PrivateWantsMemory after h,
    )

    pub other_reads : is_other_singleton c ≡ true → (r : Result (ℕ × List Text) ParseError) →
        OtherReads c more rest r → OtherTextReads t r
    other_reads x (Ok o) h = (
      rest,
      subst (λ d. PartRead is_other_singleton OtherRead (pieces t) (d, o.1) rest) (sym h.0)
          (part_reads is_other_singleton (pieces t) OtherRead c o.1 rest found x
          (subst (λ l. OtherRead l o.1 rest) after h.1)),
    )
    other_reads x (Err InvalidExtension) h = part_fault is_other_singleton (pieces t) OtherFault c
        faults.InvalidExtension found x (subst (λ l. OtherFault l faults.InvalidExtension) after h)
    other_reads x (Err OutOfMemory) h = tt
    other_reads x (Err InvalidLanguage) h = part_fault is_other_singleton (pieces t) OtherFault c
        faults.InvalidLanguage found x (subst (λ l. OtherFault l faults.InvalidLanguage) after h)
    other_reads x (Err InvalidSubtag) h = part_fault is_other_singleton (pieces t) OtherFault c
        faults.InvalidSubtag found x (subst (λ l. OtherFault l faults.InvalidSubtag) after h)
    other_reads x (Err DuplicatedExtension) h = part_fault is_other_singleton (pieces t) OtherFault c
        faults.DuplicatedExtension found x (subst (λ l. OtherFault l faults.DuplicatedExtension) after h)

    pub other_memory : is_other_singleton c ≡ true → (r : Result (ℕ × List Text) ParseError) →
        RunsOutOnlyIf (OtherWantsMemory more) r → RunsOutOnlyIf (OtherTextWants t) r
    other_memory x (Ok o) h = tt
    other_memory x (Err InvalidLanguage) h = tt
    other_memory x (Err InvalidSubtag) h = tt
    other_memory x (Err InvalidExtension) h = tt
    other_memory x (Err DuplicatedExtension) h = tt
    other_memory x (Err OutOfMemory) h =
        (begins is_other_singleton (pieces t) c found ∙ x, subst OtherWantsMemory after h)
