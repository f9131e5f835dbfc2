use Rattle.std.proofs.Common.{◌∷◌, ◌+◌, length, OnErr, ap, sym, ◌∙◌, subst, arith}
use Rattle.iloc_spec_grammar.specs.Meaning.{set_of}
use Rattle.iloc_memory.specs.Refusals.{RefusedWithin}
use Rattle.iloc_word_list.specs.Collected.{collected_words, IsCollected}
use Rattle.iloc_word_list.proofs.CollectorLaws.{many_after, set_grows}
use Rattle.iloc_word_list.proofs.word_collector.WordCollector.push_in.Goals as goal

pub invariant_of-self : goal.invariant_of-self
invariant_of-self g c =
    let was = subst IsCollected c.in-Many.is c.self.invariant in (
      many_after c.push_last.result c.args.word c.in-Many.words.items c.push_last.new.words.items was.0
          c.push_last.ensures.taken c.push_last.ensures.err,
      c.push_last.ensures.ascend,
    )

pub returns-in-Many-clause-succeeds : goal.returns-in-Many-clause-succeeds
returns-in-Many-clause-succeeds g c few =
    let was = subst IsCollected c.in-Many.is c.self.invariant in
    let same =
    ap (λ ws. length (set_of (c.args.word ∷ ws))) (sym (ap collected_words c.in-Many.is) ∙ c.self.view_is) in
    absurd (omega (arith, few, was.0, same, set_grows c.args.word c.in-Many.words.items))

pub returns-in-Many-clause-out_of_memory : goal.returns-in-Many-clause-out_of_memory
returns-in-Many-clause-out_of_memory g c =
    subst (λ ws. OnErr c.push_last.result (RefusedWithin g.M.Memory.refused (length ws + 1)))
    (sym (ap collected_words c.in-Many.is) ∙ c.self.view_is) c.push_last.ensures.out_of_memory
