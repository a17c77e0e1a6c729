-- Which writes of a sink in memory fail for their number; others may fail for want of memory.
use Rattle.ep_outside.specs.Planned.{Plan}
use Rattle.ep_disk_mem.specs.Faults.{plan_of}
use Rattle.ep_disk_mem.specs.declared.mem_sink.MemSink.{MemSink}

abbrev pub plan_of_sink : MemSink → Plan
plan_of_sink s = plan_of s.faults
