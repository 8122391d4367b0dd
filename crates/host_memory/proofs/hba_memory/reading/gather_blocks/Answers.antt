-- Each descriptor and each block is read, or refused.
use Rattle.std.proofs.Common.{◌≡◌, ◌+◌, ◌-◌, ◌*◌, ◌≤◌, ◌||◌, min, length, take, drop, arith, refl, ◌∙◌, ap, ℕ}
use borrow.Rule.Slice.PartMut.{mid_len}
use Rattle.host_memory.specs.Memory.{data_len, processes}
use Rattle.host_memory.specs.declared.hba_memory.reading.Moved.{Moved}
use Rattle.host_memory.proofs.hba_memory.Talks.{gathers_more, gathers_all, gathers_short, gathers_no_entry, gathers_no_block, block_behind}
use Rattle.host_memory.specs.Access.{IsAccess}
use Rattle.host_memory.proofs.hba_memory.reading.gather_blocks.Goals as goal

pub returns-then-moved-into : goal.returns-then-moved-into
returns-then-moved-into g c =
    gathers_all (IsAccess c.args.width g.M.HostMemory.does) c.args.memory.now c.loop-k.memory c.args.at c.args.entries (length c.args.into.now) c.loop-k.into (c.args.at + 16 * c.loop-k.k) (c.args.entries - c.loop-k.k) (length c.args.into.now - c.loop-k.moved.len) c.loop-k.moved
    c.loop-k.invariant.talk (omega arith) (omega arith) (omega arith)

pub returns-in_default : goal.returns-in_default
returns-in_default g c =
    gathers_no_entry (IsAccess c.args.width g.M.HostMemory.does) c.args.memory.now c.loop-k.memory c.read_array.new.memory c.args.at c.args.entries (length c.args.into.now) (take c.loop-k.moved.len c.loop-k.into) (c.args.at + 16 * c.loop-k.k) (c.args.entries - c.loop-k.k) (length c.args.into.now - c.loop-k.moved.len) c.loop-k.moved.is_processed
    c.loop-k.invariant.talk (omega arith) (λ none. absurd (omega arith)) (rw (c.from.ensures, c.in_default.is) at c.read_array.ensures)

pub returns-then-not-read_at : goal.returns-then-not-read_at
returns-then-not-read_at g c =
    let fits : c.loop-k.moved.len + c.min.result ≤ length c.loop-k.into = omega arith in
    let least : c.loop-k.moved.len + c.min.result - c.loop-k.moved.len ≡ min (length c.args.into.now - c.loop-k.moved.len) c.data_len.result = omega arith in
    let size : c.loop-k.moved.len + c.min.result - c.loop-k.moved.len ≡ min (length c.args.into.now - c.loop-k.moved.len) (data_len c.in-Some.entry) =
    least ∙ ap (λ (n : ℕ). min (length c.args.into.now - c.loop-k.moved.len) n) c.data_len.ensures.value in
    let long = mid_len c.loop-k.moved.len (c.loop-k.moved.len + c.min.result) c.loop-k.into fits in
    gathers_no_block (IsAccess c.args.width g.M.HostMemory.does) c.args.memory.now c.loop-k.memory c.read_array.new.memory c.read_at.new.memory c.args.at c.args.entries (length c.args.into.now) (take c.loop-k.moved.len c.loop-k.into) (c.args.at + 16 * c.loop-k.k) (c.args.entries - c.loop-k.k) (length c.args.into.now - c.loop-k.moved.len) c.in-Some.entry c.loop-k.moved.is_processed
    c.loop-k.invariant.talk (omega arith) (λ none. absurd (omega arith)) (rw (c.from.ensures, c.in-Some.is) at c.read_array.ensures)
    (rw (long, size, c.data_at.ensures, c.if-not-read_at.true) at c.read_at.ensures)

pub loop-k-preserved : goal.loop-k-preserved
loop-k-preserved g c =
    let fits : c.loop-k.moved.len + c.min.result ≤ length c.loop-k.into = omega arith in
    let least : c.loop-k.moved.len + c.min.result - c.loop-k.moved.len ≡ min (length c.args.into.now - c.loop-k.moved.len) c.data_len.result = omega arith in
    let size : c.loop-k.moved.len + c.min.result - c.loop-k.moved.len ≡ min (length c.args.into.now - c.loop-k.moved.len) (data_len c.in-Some.entry) =
    least ∙ ap (λ (n : ℕ). min (length c.args.into.now - c.loop-k.moved.len) n) c.data_len.ensures.value in
    let long = mid_len c.loop-k.moved.len (c.loop-k.moved.len + c.min.result) c.loop-k.into fits in
    let new_long : length c.read_at.new.into ≡ c.min.result = omega (arith, long) in
    let after : length c.args.into.now - (c.loop-k.moved.len + c.min.result) ≡ length c.args.into.now - c.loop-k.moved.len - data_len c.in-Some.entry = omega (arith, least, c.data_len.ensures.value) in
    let filled = block_behind c.loop-k.into c.read_at.new.into (drop (c.loop-k.moved.len + c.min.result - c.loop-k.moved.len) (drop c.loop-k.moved.len c.loop-k.into)) c.loop-k.moved.len c.min.result (c.loop-k.moved.len + c.min.result) (omega arith) new_long refl in
    let sized = ap (λ (m : Moved). m.len) c.with-moved.ensures in
    let told : (c.loop-k.moved.is_processed || processes c.in-Some.entry (c.loop-k.moved.len + c.min.result - c.loop-k.moved.len))
    ≡ (c.loop-k.moved.is_processed || processes c.in-Some.entry (min (length c.args.into.now - c.loop-k.moved.len) (data_len c.in-Some.entry))) =
    ap (λ (n : ℕ). c.loop-k.moved.is_processed || processes c.in-Some.entry n) size in
    record {
      done = omega (arith, sized);
      talk =
          rw (c.with-moved.ensures, filled)
          (gathers_more (IsAccess c.args.width g.M.HostMemory.does) c.args.memory.now c.loop-k.memory c.read_array.new.memory c.read_at.new.memory c.args.at c.args.entries (length c.args.into.now) (take c.loop-k.moved.len c.loop-k.into) (c.args.at + 16 * c.loop-k.k) (c.args.entries - c.loop-k.k) (c.args.entries - (c.loop-k.k + 1)) (length c.args.into.now - c.loop-k.moved.len)
          (length c.args.into.now - (c.loop-k.moved.len + c.min.result)) (c.args.at + 16 * (c.loop-k.k + 1)) c.in-Some.entry c.read_at.new.into c.loop-k.moved.is_processed
          (c.loop-k.moved.is_processed || processes c.in-Some.entry (c.loop-k.moved.len + c.min.result - c.loop-k.moved.len))
          c.loop-k.invariant.talk (omega arith) (λ none. absurd (omega arith)) (omega arith) after told (rw (c.from.ensures, c.in-Some.is) at c.read_array.ensures)
          (rw (long, size, c.data_at.ensures, c.if-not-read_at.false) at c.read_at.ensures));
    }

pub returns-then-moved-into-2 : goal.returns-then-moved-into-2
returns-then-moved-into-2 g c =
    gathers_all (IsAccess c.args.width g.M.HostMemory.does) c.args.memory.now c.loop-k.memory c.args.at c.args.entries (length c.args.into.now) c.loop-k.into (c.args.at + 16 * c.loop-k.k) (c.args.entries - c.loop-k.k) (length c.args.into.now - c.loop-k.moved.len) c.loop-k.moved
    c.loop-k.invariant.talk (omega arith) (omega arith) (omega arith)

pub returns-else-moved-into-2 : goal.returns-else-moved-into-2
returns-else-moved-into-2 g c =
    gathers_short (IsAccess c.args.width g.M.HostMemory.does) c.args.memory.now c.loop-k.memory c.args.at c.args.entries (length c.args.into.now) (take c.loop-k.moved.len c.loop-k.into) (c.args.at + 16 * c.loop-k.k) (c.args.entries - c.loop-k.k) (length c.args.into.now - c.loop-k.moved.len) c.loop-k.moved.is_processed
    c.loop-k.invariant.talk (omega arith) (λ none. absurd (omega arith))
