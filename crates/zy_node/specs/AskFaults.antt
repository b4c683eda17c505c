-- The fault of an ask whose request isn't sent, or whose turns end early.
use Rattle.zy_node.specs.declared.fault.AskFault.{AskFault}
use Rattle.zy_node.specs.declared.fault.AskFault.TheVariants as ask_faults
use Rattle.zy_node.specs.declared.fault.NodeFault.{NodeFault}
use Rattle.zy_node.specs.declared.fault.NodeFault.TheVariants as node_faults
use Rattle.zy_node.specs.declared.fault.SendFault.{SendFault}
use Rattle.zy_node.specs.declared.fault.SendFault.TheVariants as send_faults

abbrev pub ask_fault_of : SendFault → AskFault
ask_fault_of send_faults.Link = ask_faults.Link
ask_fault_of send_faults.Want = ask_faults.Want

-- as that of the ask, it hands nothing back
abbrev pub of_node_fault : {N : Type 0} → NodeFault N → AskFault
of_node_fault (node_faults.Link node) = ask_faults.Link
of_node_fault node_faults.Want = ask_faults.Want
