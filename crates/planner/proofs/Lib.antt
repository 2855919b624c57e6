mod Places
mod Offered
