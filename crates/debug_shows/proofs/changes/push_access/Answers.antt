use Rattle.std.proofs.Common.{ℕ, ◌++◌, string_bytes, ap, ◌∙◌}
use Rattle.emu_run.specs.Text.{newline}
use Rattle.debug_texts.specs.Numbers.{hex_text}
use Rattle.debug_shows.specs.Changes.{access_head, access_value, stored_text}
use Rattle.debug_shows.proofs.Pieces.{ok_four, pushed}
use Rattle.debug_shows.proofs.changes.push_access.Goals as goal

pub returns : goal.returns
returns c =
    let m = c.args.mem.now.memory in
    let a = c.args.access.now in
    ok_four c.push_str.result _ _ _ _ _ (access_head a) (hex_text (access_value m a)) (stored_text a.write c.args.old) newline c.in_ok-push_access_head.ensures
    (c.in_ok-push_hex.ensures ∙ ap (λ (v : ℕ). string_bytes c.push_access_head.new.text ++ hex_text v) c.access_value.ensures) c.in_ok-push_stored.ensures (pushed c.push_str.result _ _ _ c.push_str.ensures.bytes)
