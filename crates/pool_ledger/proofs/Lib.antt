-- `Scan`: the laws that the two scans of the ledger go by.
mod Scan
