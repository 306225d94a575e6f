-- The ports of the code as those of the machine (docs/machine.md, "Issue").
use Rattle.window_model.specs.Ports.{Port as MachinePort, AluPort, MulPort, DivPort, AddressPort, DataPort, LoadPort}
use Rattle.unit_ports.specs.declared.port.Port.{Port}
use Rattle.unit_ports.specs.declared.port.Port.TheVariants as own

-- the machine's port that a port of the code stands for
abbrev pub machine_port : Port → MachinePort
machine_port own.Alu = AluPort
machine_port own.Mul = MulPort
machine_port own.Div = DivPort
machine_port own.AddressPart = AddressPort
machine_port own.DataPart = DataPort
machine_port own.Load = LoadPort
