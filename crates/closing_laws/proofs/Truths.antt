-- What is true after every past, of a closing or not: of primaries, switches, promises, generations and commands.
pub mod PrimaryTruths
pub mod SwitchTruths
pub mod SwitchLists
pub mod SwitchOrder
pub mod SwitchPasts
pub mod Kept
pub mod Promises
pub mod Facts
pub mod Asking
pub mod Asked
pub mod Backed
pub mod OnlyOne
pub mod Generations
pub mod CommandsNamed
pub mod Given
pub mod Wires
