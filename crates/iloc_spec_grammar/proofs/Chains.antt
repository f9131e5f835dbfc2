-- At most eight steps lead from each accepted text to the printed text of its meaning.
use Rattle.std.proofs.Common.{◌≡◌, ◌≢◌, ◌⊎◌, inl, inr, ℕ, zero, suc, ◌+◌, ◌<◌, Bool, true, cond, ◌||◌, List, [], ◌∷◌, ◌++◌, length, map, filter_map, flat_map, refl, sym, ap, ◌∙◌, subst, arith, Option, Some, None, IfSome, option_map, is_some, nat_lt}
use Rattle.std.specs.List.{AllByRecursion, AllZip}
use Rattle.std.specs.Char.{to_ascii_lowercase}
use Rattle.std.specs.Ordering.{nat_cmp}
use Rattle.std.specs.Cmp.{nat_cmp_total}
use Rattle.std.specs.FinMap.{find, is_sorted, nat_cmp-IsAntisymmetric}
use Rattle.std.specs.FinMap.Entries.{same_entries}
use Rattle.std.proofs.lemmas.Bool.{cases_eq, lt-ltb}
use Rattle.std.proofs.lemmas.List.{map-append, length-map}
use Rattle.std.proofs.lemmas.Str.Ascii.{lowercase-lowercase}
use Rattle.iloc_spec_grammar.specs.Syntax.{LanguageLengths, Block, code_x, code_u, code_t, Text, join, lower, SpelledIdentifier, Identifier, Fields, identifier_pieces, fields_pieces, lower_singleton, IsPrivate}
use Rattle.iloc_spec_grammar.specs.Tree.{Extension, unicode, transform, other, Written, extension_pieces, extension_block, block_pieces, blocks_of, spelling, IsExtension, IsWritten, unicode_part, transform_part, private_part, other_part, by_singleton, meaning, IsTreeWellFormed, private_form, printed, tree_text, spelled_transform, spelled_unicode}
use Rattle.iloc_spec_grammar.specs.Meaning.{normal_identifier}
use Rattle.iloc_spec_grammar.specs.Values.{IsValue, lower_identifier}
use Rattle.iloc_spec_grammar.specs.TreeSteps.{TreeRule, Repeats, Trues, DroppedPieces, VariantOrder, AttributeOrder, FieldOrder, TreeIdentifierStep, ExtensionStep, Step, written}
use Rattle.iloc_spec_grammar.proofs.WordsLaws.{lower-lower}
use Rattle.iloc_spec_grammar.proofs.MapLaws.{find-map_of, to_T}
use Rattle.iloc_spec_grammar.proofs.ValuesLaws.{lower_twice, length-spelled_fields, same_identifier, all_both}
use Rattle.iloc_spec_grammar.proofs.ReadBack as back
use Rattle.iloc_spec_grammar.proofs.WellRead.{written_value, written_well_formed}
use Rattle.iloc_spec_grammar.proofs.Orders.{all_reordered}
use Rattle.iloc_spec_grammar.proofs.StepLaws.{written_step, extension_step}
use Rattle.iloc_spec_grammar.proofs.CaseLaws.{low, low_fields, low_extension, low_entry, low_entries, low_block, low_written}
use Rattle.iloc_spec_grammar.proofs.Sorting.{sort, reordered-sort, sorted-sort}
use Rattle.iloc_spec_grammar.proofs.Canonical.{sort_identifier, without_repeats, without_trues, without_dropped, with_sorted_variants, with_sorted_attributes, with_sorted_fields, repeats_step, trues_step, dropped_step, variant_order_step, attribute_order_step, field_order_step, identifier_order_step, keys_differ_then, IsCanonical, canonical, canonical_identifier}
use Rattle.iloc_spec_grammar.proofs.Singletons.{untied, find_holds}
use Rattle.iloc_spec_grammar.proofs.General.{map-then, option_map-then, zip_map, all_mapped}
use Rattle.std.proofs.lemmas.Simd.{map-map}
use Rattle.iloc_spec_grammar.proofs.PartTexts.{identifier_pieces-low, option_to_list-map, id_pieces-low}

-- the lower case of a spelling

fields_pieces-low : (fs : Fields) → fields_pieces (low_fields fs) ≡ low (fields_pieces fs)
fields_pieces-low [] = refl
fields_pieces-low (f ∷ fs) = rw (low, map-append, fields_pieces-low fs)

extension_pieces-low : (e : Extension) → extension_pieces (low_extension e) ≡ low (extension_pieces e)
extension_pieces-low (unicode u) = rw (low, fields_pieces-low, map-append)
extension_pieces-low (transform m) = rw (id_pieces-low, fields_pieces-low, map-append)
extension_pieces-low (other ps) = refl

blocks-low : (bs : List Block) →
    flat_map block_pieces (map low_block bs) ≡ low (flat_map block_pieces bs)
unfolding lower
blocks-low [] = refl
blocks-low (b ∷ bs) = rw (low, map-append, blocks-low bs)

entries-low : (es : List (ℕ × Extension)) →
    map extension_block (low_entries es) ≡ map low_block (map extension_block es)
entries-low es = simp (map-map, low_entry, extension_pieces-low, low_block)

spelling-low : (w : Written) → spelling (low_written w) ≡ low (spelling w)
spelling-low w = (λ k. identifier_pieces-low w.id k
    ++ flat_map block_pieces (entries-low w.extensions k ++ option_to_list-map low_block w.private k))
    ∙ ap (λ bs. low (identifier_pieces w.id) ++ flat_map block_pieces bs)
    (search map-append)
    ∙ ap (λ l. low (identifier_pieces w.id) ++ l) (blocks-low (blocks_of w))
    ∙ sym (map-append lower (identifier_pieces w.id) (flat_map block_pieces (blocks_of w)))

pub lower-join : (ps : List Text) → lower (join ps) ≡ join (low ps)
unfolding join lower
lower-join [] = refl
lower-join (p ∷ []) = refl
lower-join (p ∷ q ∷ ps) = rw (map-append, lower-join (q ∷ ps))

same_text : (v w : Written) → low_written v ≡ low_written w →
    lower (join (spelling v)) ≡ lower (join (spelling w))
same_text v w e = grind (arith, lower-join, spelling-low)

-- lower case twice

fields_twice : (fs : Fields) → low_fields (low_fields fs) ≡ low_fields fs
fields_twice fs = search (map-then, lower-lower, lower_twice)

extension_twice : (e : Extension) → low_extension (low_extension e) ≡ low_extension e
extension_twice (unicode u) = rw (lower_twice, fields_twice)
extension_twice (transform m) = grind (
  arith,
  fields_twice,
  same_identifier,
  lower-lower,
  option_map-then,
  lower_twice,
)
extension_twice (other ps) = ap other (lower_twice ps)

entries_twice : (es : List (ℕ × Extension)) → low_entries (low_entries es) ≡ low_entries es
entries_twice es = search (map-then, lowercase-lowercase, extension_twice)

-- what is looked up in a text in order, and in its printed form

abbrev Fine : (ℕ → Bool) → ℕ → Extension → Type 0
Fine T c e = IsExtension T c e × IsCanonical e

find_entries : (q : ℕ) (es : List (ℕ × Extension)) →
    find nat_cmp q (low_entries es) ≡ option_map low_extension (find nat_cmp q (by_singleton es))
find_entries q [] = refl
find_entries q (e ∷ es) = grind (arith, find_entries q es)

unicode_found : (T : LanguageLengths) (o : Option Extension) → IfSome o (Fine T code_u) →
    cond (nat_lt 0 (length (unicode_part o).attributes + length (unicode_part o).keywords))
    (Some (unicode (spelled_unicode (unicode_part o)))) None
    ≡ option_map low_extension o
unicode_found T None h = refl
unicode_found T (Some (unicode u)) h = grind (arith, low, low_fields, length-map, lt-ltb)
unicode_found T (Some (transform m)) h = absurd (let k = h.0.0 in omega arith)
unicode_found T (Some (other ps)) h = cc

needed : (o : Option Identifier) (n : ℕ) → (o ≡ None → 0 < n) → (is_some o || nat_lt 0 n) ≡ true
needed None n f = lt-ltb 0 n (f refl)
needed (Some i) n f = refl

id_absent : (o : Option SpelledIdentifier) → option_map normal_identifier o ≡ None → o ≡ None
id_absent None e = refl
id_absent (Some i) e = cc

transform_found : (T : LanguageLengths) (o : Option Extension) → IfSome o (Fine T code_t) →
    cond (is_some (transform_part o).id || nat_lt 0 (length (transform_part o).fields))
    (Some (transform (spelled_transform (transform_part o)))) None
    ≡ option_map low_extension o
transform_found T None h = refl
transform_found T (Some (transform m)) h =
    grind (arith, low_fields, length-map, length-spelled_fields, needed, id_absent)
transform_found T (Some (unicode u)) h = absurd (let k = h.0.0 in omega arith)
transform_found T (Some (other ps)) h = cc

others_found : (T : LanguageLengths) (q : ℕ) → q ≢ code_t → q ≢ code_u → (es : List (ℕ × Extension)) →
    AllByRecursion (λ e. Fine T (lower_singleton e) e.1) es →
    option_map other (find nat_cmp q (filter_map other_part (by_singleton es)))
    ≡ option_map low_extension (find nat_cmp q (by_singleton es))
others_found T q t u [] h = refl
others_found T q t u (e ∷ es) h = grind (arith, low_extension, untied, others_found T q t u es h.1)

-- a text in order differs from its printed form in case alone

private_printed : (x : Option Block) →
    IfSome x (λ e. (lower_singleton e ≡ code_x) × IsPrivate e.1) →
    option_map low_block x ≡ option_map low_block (private_form (private_part x))
private_printed None h = refl
private_printed (Some e) h = at_words e.1 h.1.nonempty
  where
    at_words : (ps : List Text) → 0 < length ps →
        Some (to_ascii_lowercase e.0, low ps) ≡ option_map low_block (private_form (low ps))
    at_words [] n = absurd (omega arith)
    at_words (p ∷ ps) n = λ k. Some (h.0 k, sym (lower_twice (p ∷ ps)) k)

ending : (T : LanguageLengths) (w : Written) → IsWritten T w →
    AllByRecursion (λ e. IsCanonical e.1) w.extensions →
    is_sorted nat_cmp (low_entries w.extensions) ≡ true →
    lower_identifier (normal_identifier w.id) ≡ lower_identifier w.id →
    low_written w ≡ low_written (printed (meaning w))
ending T w h c s i = λ k. record {
  id = sym i k;
  extensions = (sym (entries_twice w.extensions) ∙ ap low_entries same) k;
  private = private_printed w.private h.private k;
}
  where
    fine : AllByRecursion (λ e. Fine T (lower_singleton e) e.1) w.extensions
    fine = grind (arith, all_both)

    v : IsValue T (meaning w)
    v = written_value w h

    g : IsTreeWellFormed (meaning w)
    g = written_well_formed w h

    at : (q : ℕ) → (q ≡ code_t) ⊎ (q ≡ code_t → ⊥) → (q ≡ code_u) ⊎ (q ≡ code_u → ⊥) →
        find nat_cmp q (low_entries w.extensions) ≡ find nat_cmp q (printed (meaning w)).extensions
    at q (inl e) u = rw e (find_entries code_t w.extensions
        ∙ sym (transform_found T (find nat_cmp code_t (by_singleton w.extensions))
        (find_holds (Fine T) code_t w.extensions fine))
        ∙ sym (back.printed_t (meaning w) v g))
    at q (inr t) (inl e) = rw e (find_entries code_u w.extensions
        ∙ sym (unicode_found T (find nat_cmp code_u (by_singleton w.extensions))
        (find_holds (Fine T) code_u w.extensions fine))
        ∙ sym (back.printed_u (meaning w) v g))
    at q (inr t) (inr u) = cc (
      find_entries q w.extensions,
      others_found T q t u w.extensions fine,
      find-map_of nat_cmp nat_cmp_total q (filter_map other_part (by_singleton w.extensions)),
      back.printed_other (meaning w) v g q t u,
    )

    same : low_entries w.extensions ≡ (printed (meaning w)).extensions
    same = same_entries nat_cmp nat_cmp_total nat_cmp-IsAntisymmetric _ _ (to_T _ s)
        (to_T _ (back.printed_in_order (meaning w) v g)) (λ q. at q (cases_eq q code_t) (cases_eq q code_u))

-- the chain

abbrev at_all : (Extension → Extension) → List (ℕ × Extension) → List (ℕ × Extension)
at_all f es = map (λ e. (e.0, f e.1)) es

-- one rule at each extension, from one stage to the next
stage : (T : LanguageLengths) (r : TreeRule) (f g : Extension → Extension) →
    ((c : ℕ) (e : Extension) → IsExtension T c e → ExtensionStep r (f e) (g e)) →
    (es : List (ℕ × Extension)) → AllByRecursion (λ e. IsExtension T (lower_singleton e) e.1) es →
    AllZip (λ e g. (e.0 ≡ g.0) × ExtensionStep r e.1 g.1) (at_all f es) (at_all g es)
stage T r f g s [] h = tt
stage T r f g s (e ∷ es) h = search (stage T r f g s es h.1)

-- n steps of written locales, one after the other
abbrev pub Steps : ℕ → Written → Written → Type 0
Steps zero v w = v ≡ w
Steps (suc n) v w = (u : Written) × Step v u × Steps n u w

-- they keep the rules and the meaning
steps_keep : (T : LanguageLengths) (n : ℕ) (v w : Written) → IsWritten T v → Steps n v w →
    IsWritten T w × (meaning w ≡ meaning v)
steps_keep T zero v w h s = (subst (IsWritten T) s h, ap meaning (sym s))
steps_keep T (suc n) v w h s =
    let p = written_step T s.1 h in
    let r = steps_keep T n s.0 w p.0 s.2 in
    (r.0, r.1 ∙ p.1)

-- seven steps lead to a text that differs from the printed one in case alone
pub record SevenSteps (w : Written) : Type 0 where
  pub end : Written
  pub steps : Steps 7 w end
  pub same : lower (join (spelling end)) ≡ lower (tree_text (meaning w))

pub seven_steps : (T : LanguageLengths) (w : Written) → IsWritten T w → SevenSteps w
seven_steps T w h =
    let es = w.extensions in let x = w.private in
    let i = sort_identifier w.id in
    let f2 = λ (e : Extension). without_trues (without_repeats e) in
    let f3 = λ (e : Extension). without_dropped (f2 e) in
    let f4 = λ (e : Extension). with_sorted_variants (f3 e) in
    let f5 = λ (e : Extension). with_sorted_attributes (f4 e) in
    let f6 = λ (e : Extension). with_sorted_fields (f5 e) in
    let key = λ (e : ℕ × Extension). lower_singleton e in
    let sorted = reordered-sort nat_cmp key (at_all f6 es) in
    let end = written i (sort nat_cmp key (at_all f6 es)) x in
    let steps : Steps 7 w end = (
      written w.id (at_all without_repeats es) x,
      Step.inside Repeats TreeIdentifierStep.same (search (zip_map, without_repeats, repeats_step)),
      (
        written w.id (at_all f2 es) x,
        Step.inside Trues TreeIdentifierStep.same (stage T Trues without_repeats f2
            (λ c e k. trues_step T c (without_repeats e) (extension_step T c (repeats_step e) k).0) es
            h.extensions),
        (
          written w.id (at_all f3 es) x,
          Step.inside DroppedPieces TreeIdentifierStep.same
              (stage T DroppedPieces f2 f3 (λ c e _. dropped_step (f2 e)) es h.extensions),
          (
            written i (at_all f4 es) x,
            Step.inside VariantOrder (identifier_order_step w.id)
                (stage T VariantOrder f3 f4 (λ c e _. variant_order_step (f3 e)) es h.extensions),
            (
              written i (at_all f5 es) x,
              Step.inside AttributeOrder TreeIdentifierStep.same
                  (stage T AttributeOrder f4 f5 (λ c e _. attribute_order_step (f4 e)) es h.extensions),
              (
                written i (at_all f6 es) x,
                Step.inside FieldOrder TreeIdentifierStep.same (stage T FieldOrder f5 f6
                    (λ c e _. field_order_step (f5 e) (keys_differ_then e)) es h.extensions),
                (
                  end,
                  Step.block_order sorted,
                  refl,
                ),
              ),
            ),
          ),
        ),
      ),
    ) in
    let after = steps_keep T 7 w end h steps in
    let canonicals = all_mapped (λ e. IsExtension T (lower_singleton e) e.1) (λ e. IsCanonical e.1)
    (λ e. (e.0, f6 e.1)) (λ e k. canonical T (lower_singleton e) e.1 k) es h.extensions in
    let different = rw (← (map-map key (λ e. (e.0, f6 e.1)) es)) at h.different in
    let same = ending T end after.0 (all_reordered (λ (e : ℕ × Extension). IsCanonical e.1) sorted canonicals)
    (sorted-sort nat_cmp key nat_cmp_total (λ e. low_extension e.1) (at_all f6 es) different)
    (canonical_identifier w.id h.id.different) in
    record {
      end = end;
      steps = steps;
      same = cc (same_text end (printed (meaning end)) same, after.1);
    }
