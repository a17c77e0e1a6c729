use Rattle.ep_dir_records.specs.Keys.{gone, key}
use Rattle.std.specs.Prelude.{map, take, ◌++◌, ◌≡◌}
use Rattle.ep_dir_records.specs.declared.keys.Kind.TheVariants as kind
use Rattle.ep_groups.proofs.groups.remove_pads.Given as goal

abbrev pub invariant-loop-pad : goal.invariant-loop-pad
invariant-loop-pad l = l.puts ≡ l.fn.puts ++ map (λ p. gone (key kind.GroupPad p)) (take l.pad-index l.pads)
