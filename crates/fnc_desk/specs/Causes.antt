-- Which cause a line is refused for, by the fault that was found: each fault of a definition, of a description and of a
-- level is a cause of its own.
use Rattle.fnc_journal.specs.declared.cause.Cause.{Cause}
use Rattle.fnc_agent_api.specs.declared.description.DescribeFault.{DescribeFault}
use Rattle.fnc_config.specs.declared.faults.AgentFault.{AgentFault}
use Rattle.fnc_config.specs.declared.faults.LevelFault.{LevelFault}
use Rattle.fnc_config.specs.declared.faults.RegisterFault.{RegisterFault}
use Rattle.fnc_core.specs.declared.refusal.AskRefusal.{AskRefusal}
use Rattle.fnc_device.specs.declared.fault.DefineFault.{DefineFault}

-- of options that define no device
abbrev pub define_cause : DefineFault → Cause
define_cause DefineFault.TooManyOptions = Cause.TooManyOptions
define_cause (DefineFault.BadOption name) = Cause.BadOption
define_cause (DefineFault.RepeatedOption name) = Cause.RepeatedOption
define_cause DefineFault.BadHostList = Cause.BadHostList
define_cause DefineFault.BadHostMap = Cause.BadHostMap
define_cause DefineFault.BadHostCheck = Cause.BadHostCheck
define_cause (DefineFault.BadDuration name) = Cause.BadDuration
define_cause DefineFault.BadLimit = Cause.BadLimit
define_cause DefineFault.BadPriority = Cause.BadPriority
define_cause (DefineFault.BadRetries name) = Cause.BadRetries
define_cause (DefineFault.MissingParameter name) = Cause.MissingParameter
define_cause DefineFault.NoMemory = Cause.NoMemory

-- of a text that describes no agent
abbrev pub describe_cause : DescribeFault → Cause
describe_cause DescribeFault.NotJson = Cause.BadDescription
describe_cause DescribeFault.NotObject = Cause.NotObject
describe_cause (DescribeFault.BadField field) = Cause.BadField
describe_cause DescribeFault.NoOff = Cause.NoOff
describe_cause DescribeFault.NoMemory = Cause.NoMemory

-- of a level that is not set
abbrev pub level_cause : LevelFault → Cause
level_cause LevelFault.BadIndex = Cause.BadIndex
level_cause LevelFault.TooManyPlaces = Cause.TooManyPlaces
level_cause LevelFault.RepeatedDevice = Cause.RepeatedDevice
level_cause LevelFault.BadPattern = Cause.BadPattern
level_cause LevelFault.TooManyLevels = Cause.TooManyLevels
level_cause LevelFault.NoMemory = Cause.NoMemory

-- of an agent that is not taken
abbrev pub agent_cause : AgentFault → Cause
agent_cause AgentFault.TooManyAgents = Cause.TooManyAgents
agent_cause AgentFault.NoMemory = Cause.NoMemory

-- of a device that is not registered
abbrev pub register_cause : RegisterFault → Cause
register_cause RegisterFault.TooManyDevices = Cause.TooManyDevices
register_cause RegisterFault.NoMemory = Cause.NoMemory

-- of a request that is not taken
abbrev pub ask_cause : AskRefusal → Cause
ask_cause (AskRefusal.Full full) = Cause.Full
ask_cause AskRefusal.NoMemory = Cause.NoMemory
