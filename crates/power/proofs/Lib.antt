mod Logs
mod Ledgers
