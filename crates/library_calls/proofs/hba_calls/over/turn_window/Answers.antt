use Rattle.std.proofs.Common.{ap}
use Rattle.library_calls.proofs.hba_calls.Bytes.{turned}
use Rattle.library_calls.proofs.hba_calls.Memories.{window_key, window_bytes, window_stands, window_by, window_kept}
use Rattle.host_memory.specs.WindowLaws.{WindowDoes}
use Rattle.library_calls.proofs.hba_calls.over.turn_window.Goals as goal

pub returns : goal.returns
returns c =
    let over = turned window_key window_bytes WindowDoes window_stands window_by window_kept _ _ _ _ _ _ c.turn-turned.ensures.done c.turn-turned.ensures.picked c.turn-turned.ensures.idle
    c.turn-turned.ensures.still c.turn-turned.ensures.none_moved c.turn-turned.ensures.err c.turn-turned.ensures.kept in
    (ap (λ k. k.0) over.0, ap (λ k. k.1) over.0, over.1)
