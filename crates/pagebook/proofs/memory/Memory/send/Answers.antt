-- Why `memory::Memory::send` meets its contract.
use Rattle.std.proofs.Common.{◌≡◌, length, sym, ap, ◌∙◌, rules}
use Rattle.std.proofs.lemmas.List.{with_items_is}
use Rattle.pagebook.specs.Desks.{records, octets, held_in, memory_after}
use Rattle.posts.specs.Memories.{table_after, bytes_after}
use Rattle.pagebook.proofs.memory.Memory.send.Goals as goal

pub returns-in-Table-clause-memory : goal.returns-in-Table-clause-memory
unfolding table_after
returns-in-Table-clause-memory g c =
    let held : held_in c.args.self.now ≡ records c.as_mut_slice.result.now = ap held_in c.in-Table.is ∙ ap records (sym c.as_mut_slice.ensures.value) in
    let long : length c.send_to.new.memory ≡ c.in-Table.table.len = search rules in
    ap records (with_items_is c.in-Table.table c.send_to.new.memory long ∙ c.send_to.ensures.memory) ∙ ap (memory_after g.V.Value c.args.vote.now c.args.count.now) (sym held)

pub returns-in-Frames-clause-memory : goal.returns-in-Frames-clause-memory
unfolding bytes_after
returns-in-Frames-clause-memory g c =
    let held : held_in c.args.self.now ≡ octets c.as_mut_slice-in-Frames.result.now = ap held_in c.in-Frames.is ∙ ap octets (sym c.as_mut_slice-in-Frames.ensures.value) in
    let long : length c.send_to-in-Frames.new.memory ≡ c.in-Frames.bytes.len = search rules in
    ap octets (with_items_is c.in-Frames.bytes c.send_to-in-Frames.new.memory long ∙ c.send_to-in-Frames.ensures.memory) ∙ ap (memory_after g.V.Value c.args.vote.now c.args.count.now) (sym held)
