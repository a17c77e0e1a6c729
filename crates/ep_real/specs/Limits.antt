-- What the pads of a server are held to.
use Rattle.ep_outside.specs.declared.limits.Limits.{Limits}

-- 500 sessions at a time and 1,000,000 in all of one opening, 1,000,000 units of a text, 268,369,920 bytes of a pad's file
-- and 65,536 more for openings, and 10,000 pads that are open
abbrev pub server_limits : Limits
server_limits = record { live = 500; logins = 1000000; units = 1000000; journal = 268369920; openings = 65536; pads = 10000 }
