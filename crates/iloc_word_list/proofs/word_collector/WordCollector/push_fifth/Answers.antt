use Rattle.std.proofs.Common.{◌≡◌, ◌∷◌, ◌+◌, length, ap, sym, ◌∙◌, subst, arith}
use Rattle.std.specs.Prelude.{is_none}
use Rattle.std.specs.List.Sorted.{IsPermutation}
use Rattle.iloc_spec_grammar.specs.Meaning.{set_of}
use Rattle.iloc_spec_grammar.proofs.SetLaws.{length-set_of}
use Rattle.iloc_memory.specs.Refusals.{RefusedWithin}
use Rattle.iloc_word_list.specs.Collected.{collected_words, IsCollected}
use Rattle.iloc_word_list.proofs.CollectorLaws.{on_err, one_longer, five, put_in}
use Rattle.iloc_word_list.proofs.word_collector.WordCollector.push_fifth.Goals as goal

pub unreachable-requires : goal.unreachable-requires
unreachable-requires g c =
    let was = subst IsCollected c.in-Many.is c.self.invariant in
    let whole = ap length (sym (ap collected_words c.in-Many.is) ∙ c.self.view_is) ∙ c.requires in
    omega (arith, was.0, whole, length-set_of c.in-Many.field-0.items)

pub returns-in_err-more-in-Four-clause-succeeds : goal.returns-in_err-more-in-Four-clause-succeeds
returns-in_err-more-in-Four-clause-succeeds g c few =
    let was = subst IsCollected c.in-Four.is c.self.invariant in
    let same : c.in-Four.set ≡ c.args.self.now = sym (ap collected_words c.in-Four.is) ∙ c.self.view_is in
    let longer = one_longer c.args.word c.in-Four.set was.0 c.in_err-more-in-Four.ensures.err in
    let whole = ap (λ ws. length (set_of (c.args.word ∷ ws))) same in
    let four = ap length same ∙ c.requires in
    absurd (omega (arith, few, longer, whole, four))

pub invariant_of-self : goal.invariant_of-self
invariant_of-self g c =
    let was = subst IsCollected c.in-Four.is c.self.invariant in
    five c.args.word c.in-Four.set c.in-Some.words.items was.0 (omega (arith, was.1))
    (sym c.in_ok-more-in-Four.ensures.known ∙ ap is_none c.in-Some.is)
    (rw c.in-Some.is at c.in_ok-more-in-Four.ensures.more)

pub returns-clause-taken : goal.returns-clause-taken
returns-clause-taken g c =
    let was = subst IsCollected c.in-Four.is c.self.invariant in
    let same : c.in-Four.set ≡ c.args.self.now = sym (ap collected_words c.in-Four.is) ∙ c.self.view_is in
    let more : c.in-Some.words.items ≡ set_of (c.args.word ∷ c.in-Four.set) =
    rw c.in-Some.is at c.in_ok-more-in-Four.ensures.more in
    subst (λ ws. IsPermutation (c.args.word ∷ ws) c.in-Some.words.items) same
    (subst (IsPermutation (c.args.word ∷ c.in-Four.set)) (sym more) (put_in c.args.word c.in-Four.set was.0
    (sym c.in_ok-more-in-Four.ensures.known ∙ ap is_none c.in-Some.is)))

pub returns-in_err-more-in-Four-clause-out_of_memory : goal.returns-in_err-more-in-Four-clause-out_of_memory
returns-in_err-more-in-Four-clause-out_of_memory g c =
    on_err c.from_residual.result _ (subst (λ ws. RefusedWithin g.M.Memory.refused (length ws + 1))
    (sym (ap collected_words c.in-Four.is) ∙ c.self.view_is) c.in_err-more-in-Four.ensures.out_of_memory)
