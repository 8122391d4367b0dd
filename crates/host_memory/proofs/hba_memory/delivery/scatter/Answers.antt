-- Each block is written, or refused.
use Rattle.std.proofs.Common.{◌≡◌, ◌+◌, ◌-◌, ◌*◌, ◌||◌, min, length, drop, arith, ◌∙◌, ap, sym, take, ℕ, slice_range}
use Rattle.host_memory.specs.Memory.{processes}
use Rattle.host_memory.specs.declared.hba_memory.reading.Moved.{Moved}
use Rattle.host_memory.proofs.hba_memory.Talks.{scatters_more, scatters_done, scatters_short, scatters_no_entry, scatters_no_block, none_left, some_left, part_of, rest_of, part_size}
use Rattle.host_memory.specs.Access.{IsAccess}
use Rattle.host_memory.proofs.hba_memory.delivery.scatter.Goals as goal

pub returns-then-moved-len-clause-talk : goal.returns-then-moved-len-clause-talk
returns-then-moved-len-clause-talk g c =
    scatters_done (IsAccess c.args.width g.M.HostMemory.does) c.args.memory.now c.loop-k.memory c.args.at c.args.entries (g.S.Source.bytes c.args.source.now) (c.args.at + 16 * c.loop-k.k) (c.args.entries - c.loop-k.k) (drop c.loop-k.moved.len (g.S.Source.bytes c.args.source.now)) c.loop-k.moved
    c.loop-k.invariant.talk (none_left (g.S.Source.bytes c.args.source.now) c.loop-k.moved.len (c.if-moved-len.true ∙ c.len-len.ensures))

pub returns-in_default-clause-talk : goal.returns-in_default-clause-talk
returns-in_default-clause-talk g c =
    scatters_no_entry (IsAccess c.args.width g.M.HostMemory.does) c.args.memory.now c.loop-k.memory c.read_array.new.memory c.args.at c.args.entries (g.S.Source.bytes c.args.source.now) (c.args.at + 16 * c.loop-k.k) (c.args.entries - c.loop-k.k) (drop c.loop-k.moved.len (g.S.Source.bytes c.args.source.now)) c.loop-k.moved
    c.loop-k.invariant.talk (omega arith) (some_left (g.S.Source.bytes c.args.source.now) c.loop-k.moved.len c.loop-k.invariant.done (λ e. c.if-moved-len.false (e ∙ sym c.len-len.ensures)))
    (rw (c.from.ensures, c.in_default.is) at c.read_array.ensures)

pub returns-then-not-write_source_at-clause-talk : goal.returns-then-not-write_source_at-clause-talk
returns-then-not-write_source_at-clause-talk g c =
    let least : c.min.result ≡ min c.data_len.result (length (g.S.Source.bytes c.args.source.now) - c.loop-k.moved.len) = omega arith in
    scatters_no_block (IsAccess c.args.width g.M.HostMemory.does) c.args.memory.now c.loop-k.memory c.read_array.new.memory c.write_source_at.new.memory c.args.at c.args.entries (g.S.Source.bytes c.args.source.now) (c.args.at + 16 * c.loop-k.k) (c.args.entries - c.loop-k.k) (drop c.loop-k.moved.len (g.S.Source.bytes c.args.source.now)) c.in-Some.entry
    (slice_range (g.S.Source.bytes c.args.source.now) c.loop-k.moved.len (c.loop-k.moved.len + c.min.result)) c.loop-k.moved c.loop-k.invariant.talk (omega arith) (some_left (g.S.Source.bytes c.args.source.now) c.loop-k.moved.len c.loop-k.invariant.done (λ e. c.if-moved-len.false (e ∙ sym c.len-len.ensures)))
    (part_of (g.S.Source.bytes c.args.source.now) c.loop-k.moved.len c.data_len.result c.min.result c.loop-k.invariant.done least
    ∙ ap (λ (n : ℕ). take n (drop c.loop-k.moved.len (g.S.Source.bytes c.args.source.now))) c.data_len.ensures.value)
    (rw (c.from.ensures, c.in-Some.is) at c.read_array.ensures)
    (rw (c.data_at.ensures, c.if-not-write_source_at.true) at c.write_source_at.ensures)

pub loop-k-preserved : goal.loop-k-preserved
loop-k-preserved g c =
    let least : c.min.result ≡ min c.data_len.result (length (g.S.Source.bytes c.args.source.now) - c.loop-k.moved.len) = omega arith in
    let part = part_size (g.S.Source.bytes c.args.source.now) c.loop-k.moved.len c.min.result (omega arith) in
    let size : c.loop-k.moved.len + c.min.result - c.loop-k.moved.len
    ≡ length (slice_range (g.S.Source.bytes c.args.source.now) c.loop-k.moved.len (c.loop-k.moved.len + c.min.result)) = omega (arith, part) in
    let sized = ap (λ (m : Moved). m.len) c.with-moved.ensures in
    let told = ap (λ (m : Moved). m.is_processed) c.with-moved.ensures
    ∙ ap (λ (n : ℕ). c.loop-k.moved.is_processed || processes c.in-Some.entry n) size in
    record {
      done = omega (arith, sized);
      talk =
          scatters_more (IsAccess c.args.width g.M.HostMemory.does) c.args.memory.now c.loop-k.memory c.read_array.new.memory c.write_source_at.new.memory c.args.at c.args.entries (g.S.Source.bytes c.args.source.now) (c.args.at + 16 * c.loop-k.k) (c.args.entries - c.loop-k.k) (c.args.entries - (c.loop-k.k + 1))
          (c.args.at + 16 * (c.loop-k.k + 1)) (drop c.loop-k.moved.len (g.S.Source.bytes c.args.source.now)) (drop c.with-moved.result.len (g.S.Source.bytes c.args.source.now)) c.in-Some.entry
          (slice_range (g.S.Source.bytes c.args.source.now) c.loop-k.moved.len (c.loop-k.moved.len + c.min.result)) c.loop-k.moved c.with-moved.result
          c.loop-k.invariant.talk (omega arith) (some_left (g.S.Source.bytes c.args.source.now) c.loop-k.moved.len c.loop-k.invariant.done (λ e. c.if-moved-len.false (e ∙ sym c.len-len.ensures)))
          (sized ∙ part) told (omega arith)
          (ap (λ (n : ℕ). drop n (g.S.Source.bytes c.args.source.now)) sized
          ∙ rest_of (g.S.Source.bytes c.args.source.now) c.loop-k.moved.len c.data_len.result c.min.result c.loop-k.invariant.done least
          ∙ ap (λ (n : ℕ). drop n (drop c.loop-k.moved.len (g.S.Source.bytes c.args.source.now))) c.data_len.ensures.value)
          (part_of (g.S.Source.bytes c.args.source.now) c.loop-k.moved.len c.data_len.result c.min.result c.loop-k.invariant.done least
          ∙ ap (λ (n : ℕ). take n (drop c.loop-k.moved.len (g.S.Source.bytes c.args.source.now))) c.data_len.ensures.value)
          (rw (c.from.ensures, c.in-Some.is) at c.read_array.ensures)
          (rw (c.data_at.ensures, c.if-not-write_source_at.false) at c.write_source_at.ensures);
    }

pub returns-then-moved-len-2-clause-talk : goal.returns-then-moved-len-2-clause-talk
returns-then-moved-len-2-clause-talk g c =
    scatters_done (IsAccess c.args.width g.M.HostMemory.does) c.args.memory.now c.loop-k.memory c.args.at c.args.entries (g.S.Source.bytes c.args.source.now) (c.args.at + 16 * c.loop-k.k) (c.args.entries - c.loop-k.k) (drop c.loop-k.moved.len (g.S.Source.bytes c.args.source.now)) c.loop-k.moved
    c.loop-k.invariant.talk (none_left (g.S.Source.bytes c.args.source.now) c.loop-k.moved.len (c.if-moved-len-2.true ∙ c.len-len.ensures))

pub returns-else-moved-len-2-clause-talk : goal.returns-else-moved-len-2-clause-talk
returns-else-moved-len-2-clause-talk g c =
    scatters_short (IsAccess c.args.width g.M.HostMemory.does) c.args.memory.now c.loop-k.memory c.args.at c.args.entries (g.S.Source.bytes c.args.source.now) (c.args.at + 16 * c.loop-k.k) (c.args.entries - c.loop-k.k) (drop c.loop-k.moved.len (g.S.Source.bytes c.args.source.now)) c.loop-k.moved
    c.loop-k.invariant.talk (omega arith) (some_left (g.S.Source.bytes c.args.source.now) c.loop-k.moved.len c.loop-k.invariant.done (λ e. c.if-moved-len-2.false (e ∙ sym c.len-len.ensures)))
