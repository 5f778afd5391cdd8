-- A list whose places are cleared has every place free.
use Rattle.std.proofs.Common.{◌≡◌, List, arith}
use Rattle.std.proofs.lemmas.Grind.{common_steps}
use Rattle.std.proofs.lemmas.List.{get_or_append_left, get_or-replicate}
use Rattle.vault.specs.declared.entries.Entry.{Entry}
use Rattle.vault.specs.Entries.{cleared, Free}

pub free_cleared : (es fs : List Entry) → fs ≡ cleared es → Free fs 0
free_cleared es fs e k low high = grind (arith, common_steps, get_or_append_left, get_or-replicate)
