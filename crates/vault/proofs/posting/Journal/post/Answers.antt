-- A movement that is taken posts one entry more.
use Rattle.std.proofs.Common.{◌∙◌}
use Rattle.vault.proofs.Postings.{kept}
use Rattle.vault.proofs.posting.Journal.post.Goals as goal

pub invariant_of-self : goal.invariant_of-self
invariant_of-self c =
    let k = kept c.args.self.now c.args.movement c.left.result c.in_ok-balance.balance c.entry.result c.left.ensures c.in_ok-balance.ensures.taken c.entry.ensures in
    record { within = k.within; agree = c.set.ensures ∙ k.agree; sums = k.sums; free = k.free }
