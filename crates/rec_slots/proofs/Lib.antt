mod Sums
mod Histories
mod HeldSlots
mod EventsSeen
mod OpenAttempts
mod NotedAttempts
mod PassedTime
mod SlotReports
