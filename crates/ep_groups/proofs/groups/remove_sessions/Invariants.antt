use Rattle.ep_dir_records.specs.Keys.{gone, key}
use Rattle.std.specs.Prelude.{map, take, ◌++◌, ◌≡◌}
use Rattle.ep_dir_records.specs.declared.keys.Kind.TheVariants as kind
use Rattle.ep_groups.proofs.groups.remove_sessions.Given as goal

abbrev pub invariant-loop-info : goal.invariant-loop-info
invariant-loop-info l = l.puts ≡ l.fn.puts ++ map (λ i. gone (key kind.Session i.id)) (take l.info-index l.infos)
