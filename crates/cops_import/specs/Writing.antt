-- Why an import did not write a record.
use Rattle.cops_trace.specs.declared.fault.WriteFault.{WriteFault}
use Rattle.cops_trace.specs.declared.fault.WriteFault.TheVariants as write
use Rattle.cops_import.specs.declared.fault.ImportFault.{ImportFault}
use Rattle.cops_import.specs.declared.fault.ImportFault.TheVariants.{Memory, WriteFailed}

-- the fault of the import for a fault of the trace's writer
abbrev pub fault_of : WriteFault → ImportFault
fault_of write.Memory = Memory
fault_of (write.WriteFailed written) = WriteFailed written
